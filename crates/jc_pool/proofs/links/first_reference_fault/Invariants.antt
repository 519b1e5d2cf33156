use Rattle.std.proofs.Common.{◌≡◌, drop}
use Rattle.jc_desc.specs.Faults.{first_fault}
use Rattle.jc_desc.specs.PoolSteps.{reference_fault}
use Rattle.jc_pool.specs.Slots.{slots_of}
use Rattle.jc_pool.proofs.links.first_reference_fault.Given as goal

abbrev pub invariant-loop-slot : goal.invariant-loop-slot
invariant-loop-slot l = first_fault (reference_fault (slots_of l.slots)) (slots_of (drop l.slot-index l.slots)) ≡ first_fault (reference_fault (slots_of l.slots)) (slots_of l.slots)
