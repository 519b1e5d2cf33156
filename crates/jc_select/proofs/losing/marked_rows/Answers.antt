use Rattle.std.proofs.Common.{◌≡◌, [], sym, subst, ap, ◌∙◌, nat_lt, arith}
use Rattle.jc_facts.specs.world.World.{size}
use Rattle.jc_facts.proofs.Options.{some_where-is}
use Rattle.jc_sides.specs.SidesOf.{SidesOf}
use Rattle.jc_index.specs.Ids.{name_at}
use Rattle.jc_select.proofs.LostRows.{done_none, done_more, done_all}
use Rattle.jc_select.specs.steps.Losing.{AreNumbersOf, lost_at}
use Rattle.jc_select.proofs.losing.marked_rows.Goals as goal

pub loop-n-init : goal.loop-n-init
loop-n-init c = record {
  done = done_none [] (λ n row. AreNumbersOf c.args.sides.now.old (lost_at c.args.sides.now (name_at c.args.sides.now.old n)) row) c.in_ok-rows.rows.items c.in_ok-rows.ensures.items;
  count = c.requires.marks;
  clear = c.requires.clear;
}

pub loop-n-preserved : goal.loop-n-preserved
loop-n-preserved c =
    let k : c.unwrap-id.result ≡ c.loop-n.n = some_where-is (nat_lt c.loop-n.n (size c.sides.inside.old.now)) c.loop-n.n c.unwrap-id.result (sym c.id.ensures.value ∙ c.unwrap-id.ensures) in
    record {
      done = done_more [] (λ n row. AreNumbersOf c.args.sides.now.old (lost_at c.args.sides.now (name_at c.args.sides.now.old n)) row)
          c.loop-n.n c.unwrap-id.result c.loop-n.rows.items c.push.new.self.items c.from_vec.result k c.in_ok-push.ensures.items
          (subst (AreNumbersOf c.args.sides.now.old (lost_at c.args.sides.now (name_at c.args.sides.now.old c.unwrap-id.result))) (sym c.from_vec.ensures) c.in_ok-lost.ensures.lost) c.loop-n.invariant.done;
      count = c.lost_of.ensures.count ∙ c.loop-n.invariant.count;
      clear = c.in_ok-lost.ensures.clear;
    }

pub returns : goal.returns
returns c =
    let v : size c.sides.inside.old.now ≡ size c.args.sides.now.old = ap (λ (s : SidesOf). size s.old) c.sides.view_is in
    let l : c.loop-n.n ≡ size c.args.sides.now.old = omega (arith, c.count-n-end.ensures.count) in
    done_all [] (λ n row. AreNumbersOf c.args.sides.now.old (lost_at c.args.sides.now (name_at c.args.sides.now.old n)) row) c.loop-n.n (size c.args.sides.now.old) c.loop-n.rows.items l c.loop-n.invariant.done
