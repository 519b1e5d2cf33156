-- Of what a rule speaks, and what it makes.
use Rattle.std.specs.Prelude.{◌≡◌, ◌==◌, Bool, true, false, ℕ, List, Option, None, Some, IsTrue}
use Rattle.std.specs.List.{Contains}
use Rattle.std.specs.declared.cmp.Ordering.{Ordering}
use Rattle.std.specs.declared.cmp.Ordering.TheVariants.{Less}
use Rattle.jc_facts.specs.declared.finding.Finding.{Finding}
use Rattle.jc_facts.specs.declared.key.Key.{Key}
use Rattle.jc_facts.specs.declared.verdict.Collision.{Collision}
use Rattle.jc_promises.specs.rule.Collisions.{collision_at, CollisionStands}
use Rattle.jc_facts.specs.Exactly.{Before}
use Rattle.jc_promises.specs.rule.Bases.{is_kept}
use Rattle.jc_promises.specs.rule.Findings.{Subject, finding_at, Stands}
use Rattle.jc_facts.specs.KeyOrder.{key_cmp}
use Rattle.jc_facts.specs.Names.{Bytes}
use Rattle.jc_facts.specs.Exactly.{Rises}
use Rattle.jc_facts.specs.file.Valid.{has_key}
use Rattle.jc_index.specs.Ids.{names}
use Rattle.jc_sides.specs.SidesOf.{SidesOf, AreSides}

-- ---- findings and collisions

-- a rule on a class alone
abbrev pub on_class : ℕ → Bytes → Subject
on_class rule x = record { rule = rule; «class» = x; key = None; target = None }

-- a rule on a class and a key
abbrev pub on_key : ℕ → Bytes → Key → Subject
on_key rule x k = record { rule = rule; «class» = x; key = Some k; target = None }

-- what the rule finds of the class
unfoldable pub class_finding : ℕ → SidesOf → Bytes → Option Finding
class_finding rule s x = finding_at s.old s.new (on_class rule x)

-- what the rule finds of the class and the key
unfoldable pub key_finding : ℕ → SidesOf → Bytes → Key → Option Finding
key_finding rule s x k = finding_at s.old s.new (on_key rule x k)

-- the collision of the rule on the class and the key
abbrev pub key_collision : ℕ → SidesOf → Bytes → Key → Option Collision
key_collision rule s x k = collision_at s.old s.new rule x k

-- the finding stands, and is one of this rule
abbrev pub IsFinding : ℕ → SidesOf → Finding → Type 0
IsFinding rule s f = (f.rule ≡ rule) × Stands s.old s.new f

-- the collision stands, and is one of this rule
abbrev pub IsCollision : ℕ → SidesOf → Collision → Type 0
IsCollision rule s c = (c.rule ≡ rule) × CollisionStands s.old s.new c

-- the rule is none of those on a target or a key
pub record IsOnClass (r : ℕ) : Type 0 where
  pub not_4 : (r == 4) ≡ false
  pub not_5 : (r == 5) ≡ false
  pub not_6 : (r == 6) ≡ false
  pub not_7 : (r == 7) ≡ false
  pub not_8 : (r == 8) ≡ false
  pub not_9 : (r == 9) ≡ false

-- ---- rules on a class and a key, whatever they make: findings, collisions or notes

-- each key of which something is made is among these
abbrev pub HasEachKey : {F : Type 0} → (Key → Option F) → List Key → Type 0
HasEachKey {F} makes keys = (k : Key) (f : F) → makes k ≡ Some f → has_key k keys ≡ true

-- the same, and the keys rise
pub record HasEachInOrder {F : Type 0} (makes : Key → Option F) (keys : List Key) : Type 0 where
  pub in_order : Rises key_cmp keys
  pub each : (k : Key) (f : F) → makes k ≡ Some f → Contains keys k

-- it stands, and is of this class
abbrev pub IsOf : {F : Type 0} → (F → Bytes) → (F → Type 0) → Bytes → F → Type 0
IsOf class_of Stand x f = (class_of f ≡ x) × Stand f

-- what the rule makes is what stands, each of one key; the class decides the order and then the key; and it stands on classes
-- alone of which the rule speaks, which are kept
pub record IsItemRule {F : Type 0} (order : F → F → Ordering) (class_of : F → Bytes) (makes : SidesOf → Bytes → Key → Option F) (Stand : SidesOf → F → Type 0)
    (covers : SidesOf → Bytes → Bool) : Type 0 where
  pub stands : (s : SidesOf) (x : Bytes) (k : Key) (f : F) → makes s x k ≡ Some f → IsOf class_of (Stand s) x f
  pub made : (s : SidesOf) (f : F) → Stand s f → (k : Key) × (makes s (class_of f) k ≡ Some f)
  pub by_key : (s : SidesOf) (x : Bytes) (k l : Key) (f g : F) → key_cmp k l ≡ Less → makes s x k ≡ Some f → makes s x l ≡ Some g → order f g ≡ Less
  pub by_class : (s : SidesOf) (f g : F) → Stand s f → Stand s g → Before (class_of f) (class_of g) → order f g ≡ Less
  pub kept : (s : SidesOf) (x : Bytes) → IsTrue (covers s x) → IsTrue (is_kept s.old s.new x)
  pub on_covered : (s : SidesOf) → AreSides s → (f : F) → Stand s f → Contains (names s.old) (class_of f) × IsTrue (covers s (class_of f))
