use Rattle.std.proofs.Common.{◌≡◌, ◌+◌, ◌-◌, length}
use Rattle.jc_index.specs.steps.Queue.{ArePlaces, missing}
use Rattle.jc_index.proofs.Queues.{Searching}
use Rattle.jc_index.proofs.reach.led_to.Given as goal

abbrev pub invariant-loop-next : goal.invariant-loop-next
invariant-loop-next l = Searching l.edges l.start l.queue.items l.next × ArePlaces l.places l.queue.items × (length l.places ≡ length l.edges)

abbrev pub decreases-loop-next : goal.decreases-loop-next
decreases-loop-next l = missing (length l.edges) l.queue.items + (length l.queue.items - l.next)
