-- Laws of findings and of verdicts.
use Rattle.std.specs.Prelude.{[], ◌≡◌, false, Some, None, ℕ, true, Bool, All, is_some, ◌||◌, ◌++◌}
use Rattle.std.specs.List.{list_any}
use Rattle.jc_facts.specs.declared.rule_numbers.TheConstants.{CLASS_GONE}
use Rattle.jc_facts.specs.declared.class_facts.ClassFacts.{ClassFacts}
use Rattle.jc_facts.specs.declared.key.Key.{Key}
use Rattle.jc_facts.specs.declared.finding.Finding.{Finding}
use Rattle.jc_facts.specs.declared.verdict.Collision.{Collision}
use Rattle.jc_facts.specs.declared.verdict.Verdict.{Verdict}
use Rattle.jc_facts.specs.Names.{Bytes}
use Rattle.jc_facts.specs.world.World.{World, find_class, own_field_of, own_method_of}
use Rattle.jc_promises.specs.Pairs.{IsPair}
use Rattle.jc_facts.specs.world.Loading.{loads}
use Rattle.jc_facts.specs.file.Valid.{IsValidClass}
use Rattle.jc_promises.specs.rule.Findings.{Subject, finding_at, subject_of}
use Rattle.jc_promises.specs.rule.Collisions.{constant_added, capture_added, final_added, collision_at}
use Rattle.jc_promises.specs.rule.Bases.{is_class_usable}
use Rattle.jc_promises.specs.rule.Verdict.{IsVerdict}
use Rattle.jc_promises.specs.client.Kept.{BreaksClass}
use Rattle.jc_worlds.specs.Hierarchy.{above}

-- the finding on a subject speaks of that subject: there is at most one for each rule, class and key or target
abbrev pub FindingIsOnItsSubject : Type 0
FindingIsOnItsSubject = (O N : World) (s : Subject) (f : Finding) → finding_at O N s ≡ Some f → subject_of f ≡ s

-- the class of a finding loads with the old side
abbrev pub FindingsAreOfLoaded : Type 0
FindingsAreOfLoaded = (O N : World) (s : Subject) (f : Finding) → finding_at O N s ≡ Some f → loads O s.class ≡ true

-- the class of a collision was usable on the old side
abbrev pub CollisionsAreOfUsable : Type 0
CollisionsAreOfUsable = (O N : World) (rule : ℕ) (x : Bytes) (k : Key) (c : Collision) → collision_at O N rule x k ≡ Some c → is_class_usable O x ≡ true

-- the class declares a field or a method of the key
abbrev pub declares_key : Key → ClassFacts → Bool
declares_key k c = is_some (own_field_of c k) || is_some (own_method_of c k)

-- the key of a finding is declared by its class or above it, on one of the sides
abbrev pub KeysAreDeclared : Type 0
KeysAreDeclared = (O N : World) → IsPair O N → (s : Subject) (k : Key) (f : Finding) → s.key ≡ Some k → finding_at O N s ≡ Some f
    → list_any (declares_key k) (above O s.class ++ above N s.class) ≡ true

-- the key of a collision is declared by its class or above it on the new side
abbrev pub CollisionKeysAreDeclared : Type 0
CollisionKeysAreDeclared = (O N : World) → IsPair O N → (rule : ℕ) (x : Bytes) (k : Key) (c : Collision) → collision_at O N rule x k ≡ Some c
    → list_any (declares_key k) (above N x) ≡ true

-- there is at most one verdict
abbrev pub VerdictIsOne : Type 0
VerdictIsOne = (O N : World) (v w : Verdict) → IsVerdict O N v → IsVerdict O N w → v ≡ w

-- where a verdict lists no finding, no rule stands anywhere
abbrev pub EmptyMeansNone : Type 0
EmptyMeansNone = (O N : World) (v : Verdict) → IsVerdict O N v → v.findings ≡ [] → (s : Subject) → finding_at O N s ≡ None

-- nothing stands between a side of valid classes and itself
abbrev pub NothingBreaksItself : Type 0
NothingBreaksItself = (O : World) → ((x : Bytes) (c : ClassFacts) → find_class O x ≡ Some c → IsValidClass c)
    → ((s : Subject) → finding_at O O s ≡ None)
    × ((x : Bytes) (k : Key) → (constant_added O O x k ≡ false) × (capture_added O O x k ≡ false) × (final_added O O x k ≡ false))

-- where rule 1 stands on a side of valid classes, each client's naming of the class breaks by the printed error
abbrev pub ClassGoneBreaks : Type 0
ClassGoneBreaks = (O N : World) → O.clients ≡ [] → N.clients ≡ [] → All IsValidClass O.platform → All IsValidClass O.release
    → (s : Subject) (f : Finding) → s.rule ≡ CLASS_GONE → finding_at O N s ≡ Some f
    → BreaksClass O N f.class f.error
