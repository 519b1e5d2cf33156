-- Selection: where nothing is found and nothing is warned of, clients that answered all that was due answer all that is due now.
use Rattle.std.specs.Prelude.{List, [], ◌≡◌, None, All, Contains, IsFalse}
use Rattle.jc_facts.specs.declared.rule_numbers.TheConstants.{FINAL_ADDED}
use Rattle.jc_facts.specs.declared.client.ClientClass.{ClientClass}
use Rattle.jc_facts.specs.declared.verdict.Collision.{Collision}
use Rattle.jc_facts.specs.declared.verdict.Verdict.{Verdict}
use Rattle.jc_facts.specs.declared.warning.Warning.{Warning}
use Rattle.jc_facts.specs.Flags.{interface_flag}
use Rattle.jc_facts.specs.world.World.{World, with_clients}
use Rattle.jc_promises.specs.Pairs.{IsPair}
use Rattle.jc_facts.specs.world.Loading.{load_fault}
use Rattle.jc_promises.specs.client.Scope.{IsInScope}
use Rattle.jc_facts.specs.client.Valid.{facts_of}
use Rattle.jc_promises.specs.client.Meets.{Meets}
use Rattle.jc_promises.specs.rule.Selection.{AnswersAll}
use Rattle.jc_promises.specs.rule.Verdict.{IsVerdict}
use Rattle.jc_promises.specs.rule.Warnings.{AreWarnings}

-- the clients meet none of these collisions that is of a method made final; others don't matter to what a class answers
abbrev pub MeetsNoFinal : World → List ClientClass → List Collision → Type 0
MeetsNoFinal W cs collisions = All (λ c. c.rule ≡ FINAL_ADDED → ¬ (Meets W cs c)) collisions

-- each client class that loads with the old release, abstract or not, and answers all that is due to it there, answers all that is due with
-- the new; no interface has to answer anything
abbrev pub StaysAnswered : World → World → List ClientClass → Type 0
StaysAnswered O N cs = (y : ClientClass) → Contains cs y → IsFalse (interface_flag y.facts.flags) → load_fault (with_clients O (facts_of cs)) y.facts.name ≡ None
    → AnswersAll (with_clients O (facts_of cs)) y.facts.name → AnswersAll (with_clients N (facts_of cs)) y.facts.name

-- where the verdict has no finding and there are no warnings, all stays answered in each client world in scope that meets none of the
-- collisions of methods made final
abbrev pub SelectionStays : World → World → Verdict → List Warning → Type 0
SelectionStays O N v ws = v.findings ≡ [] → ws ≡ [] → (cs : List ClientClass) → IsInScope O N cs → MeetsNoFinal (with_clients O (facts_of cs)) cs v.collisions → StaysAnswered O N cs

-- so it is with the verdict and the warnings on a pair
abbrev pub SelectionKept : Type 0
SelectionKept = (O N : World) (v : Verdict) (ws : List Warning) → IsPair O N → IsVerdict O N v → AreWarnings O N ws → SelectionStays O N v ws
