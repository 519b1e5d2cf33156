-- A verdict within a limit.
use Rattle.std.specs.Prelude.{◌≡◌, ◌⊎◌, ℕ, false, List, length, Option, None, Some}
use Rattle.jc_facts.specs.declared.finding.Finding.{Finding}
use Rattle.jc_facts.specs.declared.verdict.Verdict.{Verdict}
use Rattle.jc_facts.specs.Exactly.{HasExactly}
use Rattle.jc_promises.specs.rule.Collisions.{CollisionStands}
use Rattle.jc_promises.specs.rule.Findings.{Stands}
use Rattle.jc_facts.specs.Orders.{finding_order, collision_order}
use Rattle.jc_promises.specs.rule.Verdict.{IsVerdict}
use Rattle.jc_facts.specs.Verdicts.{count_of}
use Rattle.jc_sides.specs.Limit.{HasMore, over, beside}
use Rattle.jc_sides.specs.SidesOf.{SidesOf}

-- more findings stand than the limit allows, or more collisions than it leaves beside the findings
abbrev pub IsPast : SidesOf → Option ℕ → Type 0
IsPast s most =
    HasMore finding_order (Stands s.old s.new) most
    ⊎ ((fs : List Finding) × HasExactly finding_order (Stands s.old s.new) fs × (over (length fs) most ≡ false) × HasMore collision_order (CollisionStands s.old s.new) (beside most (length fs)))

-- the verdict, within the limit, or None past it
abbrev pub IsLimited : SidesOf → Option ℕ → Option Verdict → Type 0
IsLimited s most None = IsPast s most
IsLimited s most (Some v) = IsVerdict s.old s.new v × (over (count_of v) most ≡ false)
