use Rattle.jc_facts.specs.world.World.{size}
use Rattle.jc_index.specs.steps.Walking.{superclass_beside}
use Rattle.jc_index.proofs.FinalKeys.{unmarked}
use Rattle.jc_index.proofs.finals.mark_beside.Goals as goal

pub loop-n-init : goal.loop-n-init
loop-n-init c = unmarked (superclass_beside c.args.index.now) (size c.args.index.now) c.args.marks.now c.requires
