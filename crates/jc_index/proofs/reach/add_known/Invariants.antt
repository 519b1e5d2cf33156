use Rattle.std.proofs.Common.{◌≡◌, take, length}
use Rattle.jc_index.specs.steps.Queue.{Enqueues, ArePlaces}
use Rattle.jc_index.proofs.reach.add_known.Given as goal

abbrev pub invariant-loop-id : goal.invariant-loop-id
invariant-loop-id l = Enqueues l.fn.queue.items l.queue.items (take l.id-index l.ids) × ArePlaces l.places l.queue.items × (length l.places ≡ length l.fn.places)
