-- The lines on calls within a limit, and what it means that none is of a method reference.
use Rattle.std.specs.Prelude.{◌≡◌, ◌≢◌, ◌≤◌, ◌<◌, ℕ, List, [], length, Option, None, Some}
use Rattle.std.specs.List.{All}
use Rattle.jc_call_kinds.specs.declared.call_line.CallKind.TheVariants.{Reference}
use Rattle.jc_call_kinds.specs.declared.call_line.CallLine.{CallLine}
use Rattle.jc_facts.specs.declared.client.ClientClass.{ClientClass}
use Rattle.jc_facts.specs.declared.verdict.Verdict.{Verdict}
use Rattle.jc_facts.specs.client.Valid.{facts_of}
use Rattle.jc_facts.specs.world.World.{World, with_clients}
use Rattle.jc_promises.specs.client.Meets.{Meets}
use Rattle.jc_promises.specs.client.Scope.{IsInScope}
use Rattle.jc_promises.specs.rule.Verdict.{IsVerdict}
use Rattle.jc_calls.specs.CallsKept.{ReferencesKept}
use Rattle.jc_calls.specs.Lines.{AreLines}

-- the list has just the lines that are due, which are at most so many; there is no list exactly where they are more
abbrev pub AreLinesWithin : World → World → ℕ → Option (List CallLine) → Type 0
AreLinesWithin O N most None = (ls : List CallLine) → AreLines O N ls → most < length ls
AreLinesWithin O N most (Some ls) = AreLines O N ls × (length ls ≤ most)

-- where none of these says that references are lost and the verdict has no finding, each method reference of a client that was Ok, and names a class of a
-- library, is Ok, in each client world in scope that meets none of the collisions
abbrev pub ReferencesStill : World → World → List CallLine → Type 0
ReferencesStill O N ls = (v : Verdict) → IsVerdict O N v → v.findings ≡ [] → All (λ l. l.kind ≢ Reference) ls
    → (cs : List ClientClass) → IsInScope O N cs → All (λ c. ¬ (Meets (with_clients O (facts_of cs)) cs c)) v.collisions → ReferencesKept O N cs
