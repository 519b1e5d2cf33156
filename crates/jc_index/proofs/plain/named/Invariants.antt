use Rattle.std.proofs.Common.{◌≡◌, drop}
use Rattle.jc_facts.specs.world.World.{class_named}
use Rattle.jc_index.proofs.plain.named.Given as goal

abbrev pub invariant-loop-class : goal.invariant-loop-class
invariant-loop-class l = class_named l.classes l.name ≡ class_named (drop l.class-index l.classes) l.name
