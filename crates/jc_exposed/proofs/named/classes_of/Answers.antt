use Rattle.std.proofs.Common.{[], refl, false}
use Rattle.std.specs.List.{cons_option}
use Rattle.jc_acts.specs.Touched.{flag_at}
use Rattle.jc_exposed.proofs.NamedClasses.{lists_none, types_next, types_end}
use Rattle.jc_exposed.proofs.named.classes_of.Goals as goal

pub loop-part-init : goal.loop-part-init
loop-part-init c = lists_none c.args.table.now (flag_at c.args.wanted.now) (λ x. false) c.new-ids.result.items c.new-ids.ensures.items (λ x. refl)

pub loop-part-preserved : goal.loop-part-preserved
loop-part-preserved c =
    types_next c.args.table.now (flag_at c.args.wanted.now) c.args.types.now c.loop-part.part-index _ _ c.loop-part.ids.items (cons_option c.class_of.result []) c.push_some.new.items.items c.loop-part-test.true refl c.in_ok-push_some.ensures c.loop-part.invariant c.class_of.ensures

pub returns : goal.returns
returns c = types_end c.args.table.now (flag_at c.args.wanted.now) c.args.types.now c.loop-part.part-index c.loop-part.ids.items c.loop-part-test.false c.loop-part.invariant
