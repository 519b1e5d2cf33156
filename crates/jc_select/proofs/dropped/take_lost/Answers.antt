use Rattle.std.proofs.Common.{◌&&◌, List, not, take, subst}
use Rattle.std.proofs.lemmas.List.{take_all}
use Rattle.jc_index.specs.Ids.{name_at}
use Rattle.jc_select.specs.declared.dropped.Loser.{Loser}
use Rattle.jc_select.specs.steps.Losing.{IsSetOf, loses_at, some_loses}
use Rattle.jc_select.proofs.DroppedRows.{less_none, taken_lost, less_more}
use Rattle.jc_select.proofs.dropped.take_lost.Goals as goal

pub loop-loser-init : goal.loop-loser-init
loop-loser-init c = λ test h. less_none c.args.sides.now test c.args.losers.now c.args.left.now h

pub loop-loser-preserved : goal.loop-loser-preserved
loop-loser-preserved c = λ test h.
    less_more c.args.sides.now test c.args.losers.now c.loop-loser.loser-index c.loser-item.result c.take_common.new.left c.loop-loser-test.true c.loser-item.is
    (c.in_ok-take_common.ensures (λ k. test k && not (some_loses c.args.sides.now (take c.loop-loser.loser-index c.args.losers.now) k)) (loses_at c.args.sides.now (name_at c.args.sides.now.old c.loser-item.result.id))
    (taken_lost c.args.sides.now c.args.sets.now c.requires.sets c.args.losers.now c.requires.losers c.loop-loser.loser-index c.loser-item.result c.loop-loser-test.true c.loser-item.is c.number.result c.index-sets-number.result c.number.ensures c.index-sets-number.is)
    (c.loop-loser.invariant test h))

pub returns : goal.returns
returns c = λ test h. subst (λ (ls : List Loser). IsSetOf (λ k. test k && not (some_loses c.args.sides.now ls k)) c.loop-loser.left) (take_all c.loop-loser.loser-index c.args.losers.now c.loop-loser-test.false) (c.loop-loser.invariant test h)
