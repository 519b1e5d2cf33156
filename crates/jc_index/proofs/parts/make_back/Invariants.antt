use Rattle.std.proofs.Common.{◌≡◌, length}
use Rattle.jc_index.specs.steps.Parts.{StayMade, AreParts}
use Rattle.jc_index.proofs.parts.make_back.Given as goal

abbrev pub invariant-loop-i : goal.invariant-loop-i
invariant-loop-i l = AreParts l.edges l.ids.items l.parts × StayMade l.fn.parts l.parts × (length l.places ≡ length l.fn.places)
