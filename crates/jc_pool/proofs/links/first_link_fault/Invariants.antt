use Rattle.std.proofs.Common.{◌≡◌, drop}
use Rattle.jc_desc.specs.Faults.{first_fault}
use Rattle.jc_desc.specs.PoolSteps.{reference_fault, sense_fault}
use Rattle.jc_pool.specs.Slots.{slots_of}
use Rattle.jc_pool.specs.steps.Forms.{AreForms}
use Rattle.jc_pool.proofs.links.first_link_fault.Given as goal

abbrev pub invariant-loop-slot : goal.invariant-loop-slot
invariant-loop-slot l =
    AreForms (slots_of l.slots) l.known
    × (first_fault (reference_fault (slots_of l.slots)) (slots_of (drop l.slot-index l.slots)) ≡ first_fault (reference_fault (slots_of l.slots)) (slots_of l.slots))
    × (first_fault (sense_fault (slots_of l.slots)) (slots_of (drop l.slot-index l.slots)) ≡ first_fault (sense_fault (slots_of l.slots)) (slots_of l.slots))
