-- Where nothing is warned of, what is due stays answered.
use Rattle.std.proofs.Common.{ℕ, List, Option, Some, None}
use Rattle.std.specs.Option.{IfSome}
use Rattle.jc_facts.specs.declared.warning.Warning.{Warning}
use Rattle.jc_promises.specs.rule.Warnings.{AreWarnings}
use Rattle.jc_promises.specs.Pairs.{AreOfOneRun}
use Rattle.jc_facts.specs.world.World.{World}
use Rattle.jc_selection.proofs.SelectionLaw.{selection_is_kept as law}
use Rattle.jc_index.specs.Sides.{IsSide}
use Rattle.jc_sides.proofs.Pair.{pair_of}
use Rattle.jc_select.specs.Within.{AreWarningsWithin, AnswersStill}

pub answer_still : (O N : World) → IsSide O → IsSide N → AreOfOneRun O N → (ws : List Warning) → AreWarnings O N ws → AnswersStill O N ws
answer_still O N o n e ws are v verdict = law O N v ws (pair_of (record { old = O; new = N }) (record { old_side = o; new_side = n; run = e })) verdict are

pub answer_within : (O N : World) → IsSide O → IsSide N → AreOfOneRun O N → (most : ℕ) (o : Option (List Warning)) → AreWarningsWithin O N most o → IfSome o (AnswersStill O N)
answer_within O N s t e most None h = tt
answer_within O N s t e most (Some ws) h = answer_still O N s t e ws h.0
