use Rattle.std.proofs.Common.{◌<◌, ◌≤◌, ◌∙◌, arith, sym, subst}
use Rattle.jc_facts.specs.world.World.{size}
use Rattle.jc_exposed.specs.Exposing.{is_wanted}
use Rattle.jc_exposed.specs.Rows.{AreAdded}
use Rattle.jc_exposed.proofs.AllNames.{rows_start, rows_next, rows_end}
use Rattle.jc_exposed.proofs.exposing.found.Goals as goal

pub loop-n-init : goal.loop-n-init
loop-n-init c = rows_start c.args.table.now (is_wanted c.args.own.now) c.in_ok-rows.rows.items c.in_ok-rows.ensures.count c.in_ok-rows.ensures.empty

pub put_all-requires-clause-rows : goal.put_all-requires-clause-rows
put_all-requires-clause-rows c = c.loop-n.invariant.shape

pub loop-n-preserved : goal.loop-n-preserved
loop-n-preserved c =
    let l : c.loop-n.n < size c.args.table.now = omega (arith, c.count-n-end.ensures.count) in
    rows_next c.args.table.now (is_wanted c.args.own.now) c.loop-n.n c.unwrap-id.result c.in_ok-members.members.items c.loop-n.rows.items c.put_all.new.rows.items l (sym c.id.ensures.value ∙ c.unwrap-id.ensures) c.loop-n.invariant c.in_ok-members.ensures
    (subst (λ ms. AreAdded c.args.table.now ms c.loop-n.rows.items c.put_all.new.rows.items) c.as_slice.ensures.value c.in_ok-put_all.ensures)

pub returns : goal.returns
returns c =
    let l : size c.args.table.now ≤ c.loop-n.n = omega (arith, c.count-n-end.ensures.count) in
    rows_end c.args.table.now (is_wanted c.args.own.now) c.loop-n.n c.loop-n.rows.items l c.loop-n.invariant
