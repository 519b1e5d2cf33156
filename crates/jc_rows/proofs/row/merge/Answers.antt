use Rattle.std.proofs.Common.{◌+◌, ◌≤◌, arith, sym, ◌∙◌, ap, subst, inl, inr, length, List, drop, ◌++◌, ◌∷◌, [], ◌⊎◌}
use Rattle.jc_rows.specs.declared.row.RowItem.{RowItem}
use Rattle.jc_rows.specs.steps.Merging.{IsUnderWay, IsMerged}
use Rattle.jc_rows.proofs.Merging.{opened, closed, closes_first, closes_second, whole, takes_first, takes_both, takes_second, is_less, is_equal, is_greater}
use Rattle.jc_rows.proofs.row.merge.Goals.{then-loop-i-test+else-j-second, else-loop-i-test}
use Rattle.jc_rows.proofs.row.merge.Goals as goal

pub loop-i-preserved-in-Less : goal.loop-i-preserved-in-Less
loop-i-preserved-in-Less c =
    let x : RowItem = c.index-first-i.result in
    let y : RowItem = c.index-second-j.result in
    let xs : List RowItem = drop (c.loop-i.i + 1) c.args.first.now in
    let ys : List RowItem = drop (c.loop-i.j + 1) c.args.second.now in
    let out : List RowItem = c.loop-i.row.items in
    let w = opened c.args.first.now c.args.second.now out c.loop-i.i c.loop-i.j x y c.loop-i-test.true c.if-j-second.true c.index-first-i.is c.index-second-j.is c.loop-i.invariant.under_way in
    let s = takes_first c.args.first.now c.args.second.now out x xs y ys w (is_less x.key y.key c.in-Less.ensures) in
    record {
      within_first = omega arith;
      within_second = omega arith;
      under_way =
          subst (λ (made : List RowItem). IsUnderWay c.args.first.now c.args.second.now made xs (drop c.loop-i.j c.args.second.now)) (sym c.in_ok-push-in-Less.ensures.items)
          (closes_second c.args.first.now c.args.second.now (out ++ (x ∷ [])) xs c.loop-i.j y c.if-j-second.true c.index-second-j.is s);
    }

pub loop-i-preserved-in-Equal : goal.loop-i-preserved-in-Equal
loop-i-preserved-in-Equal c =
    let x : RowItem = c.index-first-i.result in
    let y : RowItem = c.index-second-j.result in
    let xs : List RowItem = drop (c.loop-i.i + 1) c.args.first.now in
    let ys : List RowItem = drop (c.loop-i.j + 1) c.args.second.now in
    let out : List RowItem = c.loop-i.row.items in
    let w = opened c.args.first.now c.args.second.now out c.loop-i.i c.loop-i.j x y c.loop-i-test.true c.if-j-second.true c.index-first-i.is c.index-second-j.is c.loop-i.invariant.under_way in
    record {
      within_first = omega arith;
      within_second = omega arith;
      under_way =
          subst (λ (made : List RowItem). IsUnderWay c.args.first.now c.args.second.now made xs ys) (sym c.in_ok-push-in-Equal.ensures.items)
          (takes_both c.args.first.now c.args.second.now out x xs y ys w (is_equal x.key y.key c.in-Equal.ensures));
    }

pub loop-i-preserved : goal.loop-i-preserved
loop-i-preserved c =
    let x : RowItem = c.index-first-i.result in
    let y : RowItem = c.index-second-j.result in
    let xs : List RowItem = drop (c.loop-i.i + 1) c.args.first.now in
    let ys : List RowItem = drop (c.loop-i.j + 1) c.args.second.now in
    let out : List RowItem = c.loop-i.row.items in
    let w = opened c.args.first.now c.args.second.now out c.loop-i.i c.loop-i.j x y c.loop-i-test.true c.if-j-second.true c.index-first-i.is c.index-second-j.is c.loop-i.invariant.under_way in
    let s = takes_second c.args.first.now c.args.second.now out x xs y ys w (is_greater x.key y.key c.in-Greater.ensures) in
    record {
      within_first = omega arith;
      within_second = omega arith;
      under_way =
          subst (λ (made : List RowItem). IsUnderWay c.args.first.now c.args.second.now made (drop c.loop-i.i c.args.first.now) ys) (sym c.in_ok-push-in-Greater.ensures.items)
          (closes_first c.args.first.now c.args.second.now (out ++ (y ∷ [])) c.loop-i.i x ys c.loop-i-test.true c.index-first-i.is s);
    }

pub returns : goal.returns
returns c =
    subst (IsMerged c.args.first.now c.args.second.now)
    (sym (c.in_ok-extend_from_slice-2.ensures.items
    ∙ ap (λ (end : List RowItem). c.extend_from_slice.new.self.items ++ end) (whole c.args.second.now c.loop-i.j)
    ∙ ap (λ (made : List RowItem). made ++ drop c.loop-i.j c.args.second.now) (c.in_ok-extend_from_slice.ensures.items ∙ ap (λ (end : List RowItem). c.loop-i.row.items ++ end) (whole c.args.first.now c.loop-i.i))))
    (closed c.args.first.now c.args.second.now c.loop-i.row.items c.loop-i.i c.loop-i.j over c.loop-i.invariant.under_way)
  where
    over : (length c.args.first.now ≤ c.loop-i.i) ⊎ (length c.args.second.now ≤ c.loop-i.j)
    over = elim c.loop-i-test.branch [ then-loop-i-test+else-j-second w ↦ inr w.if-j-second.false | else-loop-i-test w ↦ inl w.loop-i-test.false ]
