use Rattle.std.proofs.Common.{take}
use Rattle.std.specs.List.{All}
use Rattle.jc_facts.specs.file.Valid.{IsValidClass}
use Rattle.jc_index.proofs.plain.are_valid.Given as goal

abbrev pub invariant-loop-class : goal.invariant-loop-class
invariant-loop-class l = All IsValidClass (take l.class-index l.classes)
