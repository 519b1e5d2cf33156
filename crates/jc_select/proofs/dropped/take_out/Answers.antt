use Rattle.std.proofs.Common.{◌==◌, ◌&&◌, ℕ, List, not, subst}
use Rattle.std.specs.List.{list_any}
use Rattle.std.proofs.lemmas.List.{take_all}
use Rattle.jc_select.specs.steps.Losing.{IsSetOf}
use Rattle.jc_select.proofs.SetsOf.{taken_none, taken_more}
use Rattle.jc_select.proofs.dropped.take_out.Goals as goal

pub loop-id-init : goal.loop-id-init
loop-id-init c = λ test h. taken_none test c.args.ids.now c.args.left.now h

pub loop-id-preserved : goal.loop-id-preserved
loop-id-preserved c = λ test h.
    taken_more test c.args.ids.now c.loop-id.id-index c.id-item.result c.loop-id.left c.remove.new.self c.loop-id-test.true c.id-item.is (c.loop-id.invariant test h) c.remove.ensures.updates c.remove.ensures.ordered

pub returns : goal.returns
returns c = λ test h. subst (λ (is : List ℕ). IsSetOf (λ k. test k && not (list_any (λ i. i == k) is)) c.loop-id.left) (take_all c.loop-id.id-index c.args.ids.now c.loop-id-test.false) (c.loop-id.invariant test h)
