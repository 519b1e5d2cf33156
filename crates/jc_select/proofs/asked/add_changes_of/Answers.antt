use Rattle.std.proofs.Common.{ℕ, List, subst, arith}
use Rattle.std.proofs.lemmas.List.{take_all}
use Rattle.jc_select.specs.steps.Asked.{HaveThose}
use Rattle.jc_select.proofs.AskedKeys.{those_start, those_more}
use Rattle.jc_select.proofs.asked.add_changes_of.Goals as goal

pub loop-id-init : goal.loop-id-init
loop-id-init c = those_start c.args.changes.now c.args.classes.now c.args.keys.now.items

pub loop-id-preserved : goal.loop-id-preserved
loop-id-preserved c =
    those_more c.args.changes.now c.args.classes.now c.loop-id.id-index c.id-item.result c.args.keys.now.items c.loop-id.keys.items c.add_changes.new.keys.items c.loop-id-test.true c.id-item.is
    c.loop-id.invariant c.in_ok-add_changes.ensures

pub returns : goal.returns
returns c =
    subst (λ (ids : List ℕ). HaveThose c.args.changes.now ids c.args.keys.now.items c.loop-id.keys.items) (take_all c.loop-id.id-index c.args.classes.now (omega arith)) c.loop-id.invariant
