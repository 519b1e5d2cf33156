use Rattle.std.proofs.Common.{length}
use Rattle.jc_index.specs.steps.PlacesAbove.{first_place}
use Rattle.jc_index.specs.steps.Walking.{AreMarked}
use Rattle.jc_index.proofs.finals.mark_first.Given as goal

abbrev pub invariant-loop-places : goal.invariant-loop-places
invariant-loop-places l = AreMarked (first_place l.above) (length l.above) l.places-index l.marks
