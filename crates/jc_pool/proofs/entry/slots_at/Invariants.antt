use Rattle.std.proofs.Common.{◌≡◌, ◌-◌}
use Rattle.jc_desc.specs.PoolSteps.{slots_at}
use Rattle.jc_pool.specs.Slots.{slots_of}
use Rattle.jc_pool.specs.steps.Slots.{all_slots_at, with_front}
use Rattle.jc_pool.proofs.entry.slots_at.Given as goal

abbrev pub invariant-loop-i : goal.invariant-loop-i
invariant-loop-i l = with_front (slots_of l.slots.items) (slots_at l.second (l.count - l.i) l.rest) ≡ all_slots_at l.count l.bytes
