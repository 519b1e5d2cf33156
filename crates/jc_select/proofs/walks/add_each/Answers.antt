use Rattle.std.proofs.Common.{ℕ, List, subst, arith}
use Rattle.std.proofs.lemmas.List.{take_all}
use Rattle.jc_select.specs.steps.Changes.{HaveNone}
use Rattle.jc_select.proofs.AskedKeys.{none_start, none_more}
use Rattle.jc_select.proofs.walks.add_each.Goals as goal

pub loop-id-init : goal.loop-id-init
loop-id-init c = none_start c.args.table.now c.args.classes.now c.args.keys.now.items

pub loop-id-preserved : goal.loop-id-preserved
loop-id-preserved c =
    none_more c.args.table.now c.args.classes.now c.loop-id.id-index c.id-item.result c.args.keys.now.items c.loop-id.keys.items c.add_own.new.keys.items c.loop-id-test.true c.id-item.is
    c.loop-id.invariant c.in_ok-add_own.ensures

pub returns : goal.returns
returns c =
    subst (λ (ids : List ℕ). HaveNone c.args.table.now ids c.args.keys.now.items c.loop-id.keys.items) (take_all c.loop-id.id-index c.args.classes.now (omega arith)) c.loop-id.invariant
