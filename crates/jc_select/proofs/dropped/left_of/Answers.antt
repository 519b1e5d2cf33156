use Rattle.std.proofs.Common.{◌<◌, ◌&&◌, List, not, sym, subst}
use Rattle.std.specs.List.{All}
use Rattle.jc_facts.specs.world.World.{size}
use Rattle.jc_index.specs.Ids.{name_at}
use Rattle.jc_select.specs.declared.dropped.Loser.{Loser}
use Rattle.jc_select.specs.steps.Losing.{AreLosersAbove, IsSetOf, loses_at, some_loses}
use Rattle.jc_select.proofs.DroppedRows.{losers_sorted, set_at, left_drops}
use Rattle.jc_select.proofs.dropped.left_of.Goals as goal

pub take_lost-requires-clause-losers : goal.take_lost-requires-clause-losers
take_lost-requires-clause-losers c =
    let above : AreLosersAbove c.args.sides.now (name_at c.args.sides.now.old c.args.class) c.sort_by_count.new.losers.items =
    losers_sorted c.args.sides.now (name_at c.args.sides.now.old c.args.class) c.in_ok-losers.losers.items c.sort_by_count.new.losers.items c.sort_by_count.ensures c.in_ok-losers.ensures in
    subst (λ (ls : List Loser). All (λ (l : Loser). l.id < size c.args.sides.now.old) ls) (sym c.as_slice.ensures.value) above.within

pub returns : goal.returns
returns c =
    let x = name_at c.args.sides.now.old c.args.class in
    let above : AreLosersAbove c.args.sides.now x c.sort_by_count.new.losers.items =
    losers_sorted c.args.sides.now x c.in_ok-losers.losers.items c.sort_by_count.new.losers.items c.sort_by_count.ensures c.in_ok-losers.ensures in
    let row : IsSetOf (loses_at c.args.sides.now x) c.index-sets-number.result =
    set_at c.args.sides.now c.args.sets.now c.requires.sets c.args.class c.number.result c.index-sets-number.result c.requires.class c.number.ensures c.index-sets-number.is in
    left_drops c.args.sides.now x c.sort_by_count.new.losers.items c.take_lost.new.left above
    (subst (λ (ls : List Loser). IsSetOf (λ k. loses_at c.args.sides.now x k && not (some_loses c.args.sides.now ls k)) c.take_lost.new.left) c.as_slice.ensures.value
    (c.in_ok-take_lost.ensures (loses_at c.args.sides.now x) (c.in_ok-left.ensures (loses_at c.args.sides.now x) row)))
