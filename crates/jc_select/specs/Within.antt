-- The warnings within a limit, and what it means that there are none.
use Rattle.std.specs.Prelude.{◌≤◌, ◌<◌, ℕ, List, length, Option, None, Some}
use Rattle.jc_facts.specs.declared.verdict.Verdict.{Verdict}
use Rattle.jc_facts.specs.declared.warning.Warning.{Warning}
use Rattle.jc_promises.specs.rule.Verdict.{IsVerdict}
use Rattle.jc_promises.specs.rule.Warnings.{AreWarnings}
use Rattle.jc_facts.specs.world.World.{World}
use Rattle.jc_selection.specs.SelectionKept.{SelectionStays}

-- the list has just the warnings, which are at most so many; there is no list exactly where they are more
abbrev pub AreWarningsWithin : World → World → ℕ → Option (List Warning) → Type 0
AreWarningsWithin O N most None = (ws : List Warning) → AreWarnings O N ws → most < length ws
AreWarningsWithin O N most (Some ws) = AreWarnings O N ws × (length ws ≤ most)

-- where these are none and the verdict has no finding, client classes in scope that answered all that was due answer all that is due now,
-- unless they meet a collision of a method made final
abbrev pub AnswersStill : World → World → List Warning → Type 0
AnswersStill O N ws = (v : Verdict) → IsVerdict O N v → SelectionStays O N v ws
