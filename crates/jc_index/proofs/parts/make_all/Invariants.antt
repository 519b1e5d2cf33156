use Rattle.std.proofs.Common.{◌≡◌, ◌<◌, ℕ, length}
use Rattle.jc_index.specs.steps.Parts.{IsMade, AreParts}
use Rattle.jc_index.proofs.parts.make_all.Given as goal

abbrev pub invariant-loop-n : goal.invariant-loop-n
invariant-loop-n l = AreParts l.edges l.ids.items l.parts × ((n : ℕ) → n < l.n → IsMade l.parts n) × (length l.places ≡ length l.fn.places)
