use Rattle.std.proofs.Common.{◌≡◌, take, map}
use Rattle.jc_sides.specs.SharedOf.{name_of}
use Rattle.jc_sides.proofs.classes.names_of.Given as goal

abbrev pub invariant-loop-class : goal.invariant-loop-class
invariant-loop-class l = l.names.items ≡ map name_of (take l.class-index l.classes)
