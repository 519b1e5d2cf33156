use Rattle.jc_facts.specs.Generated.{old_class}
use Rattle.jc_facts.proofs.Generated.{one_more}
use Rattle.jc_facts.proofs.generate.old_release.Goals as goal

pub loop-number-preserved : goal.loop-number-preserved
loop-number-preserved c = one_more old_class c.loop-number.number c.loop-number.release.items _ c.in_ok-old_class.field-0 c.loop-number.invariant c.in_ok-old_class.ensures c.in_ok-push.ensures.items
