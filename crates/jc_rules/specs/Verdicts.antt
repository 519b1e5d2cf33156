-- A verdict within a limit, and what a verdict means.
use Rattle.std.specs.Prelude.{◌≡◌, ◌≤◌, ◌<◌, ℕ, List, [], Option, None, Some}
use Rattle.std.specs.List.{All}
use Rattle.jc_facts.specs.declared.rule_numbers.TheConstants.{CLASS_GONE}
use Rattle.jc_facts.specs.declared.client.ClientClass.{ClientClass}
use Rattle.jc_facts.specs.declared.verdict.Verdict.{Verdict}
use Rattle.jc_promises.specs.client.Scope.{IsInScope}
use Rattle.jc_promises.specs.client.Keeps.{Keeps}
use Rattle.jc_facts.specs.client.Valid.{facts_of}
use Rattle.jc_promises.specs.client.Kept.{BreaksClass}
use Rattle.jc_promises.specs.client.Meets.{Meets}
use Rattle.jc_promises.specs.rule.Verdict.{IsVerdict}
use Rattle.jc_facts.specs.Verdicts.{count_of}
use Rattle.jc_facts.specs.world.World.{World, with_clients}

-- the verdict, where it has at most so many findings and collisions, and None where it has more
abbrev pub IsVerdictWithin : World → World → ℕ → Option Verdict → Type 0
IsVerdictWithin O N most (Some v) = IsVerdict O N v × (count_of v ≤ most)
IsVerdictWithin O N most None = (v : Verdict) → IsVerdict O N v → most < count_of v

-- where it has no finding, each client world in scope that meets none of its collisions keeps what held
abbrev pub KeepsAll : World → World → Verdict → Type 0
KeepsAll O N v = v.findings ≡ [] → (cs : List ClientClass) → IsInScope O N cs → All (λ c. ¬ (Meets (with_clients O (facts_of cs)) cs c)) v.collisions → Keeps O N cs

-- whatever clients there are, whoever names a class that is gone has the finding's error
abbrev pub BreaksEach : World → World → Verdict → Type 0
BreaksEach O N v = All (λ f. f.rule ≡ CLASS_GONE → BreaksClass O N f.class f.error) v.findings
