use Rattle.std.proofs.Common.{List, subst}
use Rattle.jc_facts.specs.declared.class_facts.ClassFacts.{ClassFacts}
use Rattle.jc_index.specs.steps.Walking.{HavePlatformFinals}
use Rattle.jc_index.proofs.platform_list.PlatformList.new.Goals as goal

pub invariant_of-result : goal.invariant_of-result
invariant_of-result c = record {
  places = c.in_ok-above.ensures;
  finals = subst (λ (cs : List ClassFacts). HavePlatformFinals cs c.in_ok-finals.finals) c.classes.ensures c.in_ok-finals.ensures;
}
