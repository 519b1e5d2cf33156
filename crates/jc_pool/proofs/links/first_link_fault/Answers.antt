use Rattle.jc_desc.specs.Faults.{first_fault}
use Rattle.jc_desc.specs.PoolSteps.{reference_fault, sense_fault}
use Rattle.jc_pool.specs.Slots.{slots_of}
use Rattle.jc_pool.proofs.Unlinked.{text_refers, text_means, passed}
use Rattle.jc_pool.proofs.links.first_link_fault.Goals as goal

pub loop-slot-preserved-then-slot-eq-UTF8 : goal.loop-slot-preserved-then-slot-eq-UTF8
loop-slot-preserved-then-slot-eq-UTF8 c =
    let slots = slots_of c.args.slots.now in (
      c.loop-slot.invariant.0,
      passed (reference_fault slots) c.args.slots.now c.loop-slot.slot-index _ (first_fault (reference_fault slots) slots) c.loop-slot-test.true (text_refers slots _ c.if-slot-eq-UTF8.true) c.loop-slot.invariant.1,
      passed (sense_fault slots) c.args.slots.now c.loop-slot.slot-index _ (first_fault (sense_fault slots) slots) c.loop-slot-test.true (text_means slots _ c.if-slot-eq-UTF8.true) c.loop-slot.invariant.2,
    )
