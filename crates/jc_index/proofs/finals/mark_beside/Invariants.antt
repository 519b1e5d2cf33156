use Rattle.jc_facts.specs.world.World.{size}
use Rattle.jc_index.specs.steps.Walking.{AreMarked, superclass_beside}
use Rattle.jc_index.proofs.finals.mark_beside.Given as goal

abbrev pub invariant-loop-n : goal.invariant-loop-n
invariant-loop-n l = AreMarked (superclass_beside l.index) (size l.index) l.n l.marks
