-- Soundness: what the rules find nothing about, clients keep.
use Rattle.std.specs.Prelude.{ℕ, Bool, true, not, List, [], ◌≡◌, ◌==◌, ◌||◌, nat_le, Option, None, is_some, All, Contains, IsTrue}
use Rattle.jc_facts.specs.declared.rule_numbers.TheConstants.{SUPERCLASS_LOST, METHOD_MADE_FINAL, FIELD_CLOSED, CONSTANT_ADDED, CAPTURE_ADDED}
use Rattle.jc_facts.specs.declared.client.ClientClass.{ClientClass}
use Rattle.jc_facts.specs.declared.client.Item.TheVariants as item
use Rattle.jc_facts.specs.declared.client.Place.{Place}
use Rattle.jc_facts.specs.declared.act.Act.{Act}
use Rattle.jc_facts.specs.declared.key.Key.{Key}
use Rattle.jc_facts.specs.declared.verdict.Collision.{Collision}
use Rattle.jc_facts.specs.declared.verdict.Verdict.{Verdict}
use Rattle.jc_facts.specs.Names.{Bytes, object_name}
use Rattle.jc_facts.specs.world.World.{World, class_named, with_clients}
use Rattle.jc_promises.specs.Pairs.{AreOfOneRun, IsPair}
use Rattle.jc_facts.specs.world.Loading.{load_fault}
use Rattle.jc_facts.specs.client.Outcome.{outcome}
use Rattle.jc_facts.specs.client.Acts.{FieldForm, form_of}
use Rattle.jc_promises.specs.client.Scope.{IsInScope}
use Rattle.jc_facts.specs.client.Valid.{facts_of}
use Rattle.jc_promises.specs.client.Reach.{is_in_reach}
use Rattle.jc_promises.specs.client.Keeps.{Keeps}
use Rattle.jc_promises.specs.client.Meets.{Meets}
use Rattle.jc_promises.specs.client.Kept.{DeclareNone, KeepsTypes}
use Rattle.jc_promises.specs.rule.Findings.{Subject, finding_at}
use Rattle.jc_promises.specs.rule.Collisions.{CollisionStands}
use Rattle.jc_promises.specs.rule.Verdict.{IsVerdict}

-- ---- whole

-- Where the verdict lists no finding, every client world in scope that meets none of its collisions keeps with the new release
-- each load, and each assignment and use in reach, that held with the old.
abbrev pub Soundness : Type 0
Soundness = (O N : World) (v : Verdict) (cs : List ClientClass) → IsPair O N → IsVerdict O N v → v.findings ≡ []
    → IsInScope O N cs → All (λ c. ¬ (Meets (with_clients O (facts_of cs)) cs c)) v.collisions → Keeps O N cs

-- The same without a list: no rule stands anywhere, and no collision that stands is met.
abbrev pub SoundnessOfRules : Type 0
SoundnessOfRules = (O N : World) (cs : List ClientClass) → IsPair O N → ((s : Subject) → finding_at O N s ≡ None)
    → IsInScope O N cs → ((c : Collision) → CollisionStands O N c → ¬ (Meets (with_clients O (facts_of cs)) cs c)) → Keeps O N cs

-- ---- with fewer rules

-- the rules that pass the test find nothing
abbrev pub FindNothing : (ℕ → Bool) → World → World → Type 0
FindNothing rules O N = (s : Subject) → IsTrue (rules s.rule) → finding_at O N s ≡ None

-- the collision of this rule is not met
abbrev pub MeetsNone : ℕ → World → World → List ClientClass → Type 0
MeetsNone rule O N cs = (c : Collision) → c.rule ≡ rule → CollisionStands O N c → ¬ (Meets (with_clients O (facts_of cs)) cs c)

-- Rules 1 to 4 keep the loads of such clients, the classes that they name and their assignments in reach.
abbrev pub TypesKept : Type 0
TypesKept = (O N : World) (cs : List ClientClass) → AreOfOneRun O N → is_some (class_named O.platform object_name) ≡ true
    → FindNothing (λ r. nat_le r SUPERCLASS_LOST) O N → IsInScope O N cs → DeclareNone cs → KeepsTypes O N cs

-- With rule 7 they keep the acts on fields too, where no Constant collision is met.
abbrev pub FieldsKept : Type 0
FieldsKept = (O N : World) (cs : List ClientClass) → IsPair O N → FindNothing (λ r. nat_le r SUPERCLASS_LOST || r == FIELD_CLOSED) O N
    → IsInScope O N cs → DeclareNone cs → MeetsNone CONSTANT_ADDED O N cs
    → let before = with_clients O (facts_of cs) in
    let after = with_clients N (facts_of cs) in
    (c : ClientClass) (act : Act) (t : Bytes) (k : Key) (r : Option Bytes) (place : Place) → let use_it = item.Access act t k r place in
    Contains cs c → load_fault before c.facts.name ≡ None → form_of act ≡ FieldForm → Contains c.items use_it → IsTrue (is_in_reach before c.facts.name cs use_it)
    → outcome before c.facts.name use_it ≡ None → outcome after c.facts.name use_it ≡ None

-- All rules but rule 6 keep all loads and items of such clients, where no Constant and no Capture collision is met.
abbrev pub KeptWithoutMethods : Type 0
KeptWithoutMethods = (O N : World) (cs : List ClientClass) → IsPair O N → FindNothing (λ r. not (r == METHOD_MADE_FINAL)) O N
    → IsInScope O N cs → DeclareNone cs → MeetsNone CONSTANT_ADDED O N cs → MeetsNone CAPTURE_ADDED O N cs → Keeps O N cs
