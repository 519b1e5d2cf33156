use Rattle.std.proofs.Common.{sym, subst, List}
use Rattle.jc_facts.specs.world.World.{World}
use Rattle.jc_index.specs.Ids.{name_at}
use Rattle.jc_rows.specs.declared.row.RowItem.{RowItem}
use Rattle.jc_rows.specs.steps.Gathering.{Gathers}
use Rattle.jc_rows.specs.steps.Settling.{IsSource}
use Rattle.jc_rows.proofs.Sources.{is_source}
use Rattle.jc_rows.proofs.methods.method_row.Goals as goal

pub settle-requires-clause-all : goal.settle-requires-clause-all
settle-requires-clause-all c =
    let W : World = c.args.hierarchy.now in
    let g : Gathers W c.args.rows.now c.facts.result.now c.args.front.now c.in_ok-all.all.items = subst (λ (v : World). Gathers v c.args.rows.now c.facts.result.now c.args.front.now c.in_ok-all.all.items) c.index.ensures
    (subst (λ (r : List RowItem). Gathers c.index.result.now c.args.rows.now c.facts.result.now r c.in_ok-all.all.items) c.in_ok-first.ensures.items c.in_ok-all.ensures) in
    subst (IsSource W (name_at W c.args.class)) (sym c.as_slice.ensures.value)
    (is_source W c.args.rows.now (name_at W c.args.class) c.facts.result.now (sym c.facts.ensures) c.requires.loads c.requires.above c.args.front.now c.in_ok-all.all.items c.requires.front g)
