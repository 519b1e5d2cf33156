use Rattle.std.proofs.Common.{List, refl, subst}
use Rattle.std.specs.List.{All}
use Rattle.std.proofs.lemmas.List.{take_all}
use Rattle.std.proofs.lemmas.List.Elements.{All-more}
use Rattle.jc_facts.specs.declared.class_facts.ClassFacts.{ClassFacts}
use Rattle.jc_facts.specs.file.Valid.{IsValidClass}
use Rattle.jc_index.proofs.plain.are_valid.Goals as goal

pub loop-class-preserved : goal.loop-class-preserved
loop-class-preserved c =
    All-more IsValidClass c.args.classes.now c.loop-class.class-index c.class-item.result c.loop-class-test.true c.loop-class.invariant
    (subst IsValidClass c.class-item.is (c.in_ok-valid.ensures.0 c.if-not-valid.false))

pub returns : goal.returns
returns c = (
  λ h. subst (λ (cs : List ClassFacts). All IsValidClass cs) (take_all c.loop-class.class-index c.args.classes.now c.loop-class-test.false) c.loop-class.invariant,
  λ h. refl,
)
