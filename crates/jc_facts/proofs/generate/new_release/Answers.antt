use Rattle.jc_facts.specs.Generated.{new_class}
use Rattle.jc_facts.proofs.Generated.{one_more}
use Rattle.jc_facts.proofs.generate.new_release.Goals as goal

pub loop-number-preserved : goal.loop-number-preserved
loop-number-preserved c = one_more new_class c.loop-number.number c.loop-number.release.items _ c.in_ok-new_class.field-0 c.loop-number.invariant c.in_ok-new_class.ensures c.in_ok-push.ensures.items
