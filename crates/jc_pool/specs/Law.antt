-- What is said of every list of bytes: it begins with one pool, or it has one first fault.
use Rattle.std.specs.Prelude.{◌≡◌, ℕ, true, false, List, ◌∷◌, ◌++◌, length}
use Rattle.jc_desc.specs.declared.fault.Reason.{Reason}
use Rattle.jc_desc.specs.Pool.{Slot, PoolOf, names_class, names_any_member, describes_field, names_used_method, fits_handle, names_for_handle}
use Rattle.jc_desc.specs.PoolAnswers.{MemberRefOf, HandleRefOf}
use Rattle.jc_desc.specs.PoolGrammar.{IsBody, ReadsPool}
use Rattle.jc_desc.specs.PoolSteps.{PoolFaulty}
use Rattle.jc_desc.specs.Tags as tags

-- exactly one pool is read, up to one offset, and nothing is faulty
pub record ReadsOne (bytes : List ℕ) : Type 0 where
  pub pool : PoolOf
  pub offset : ℕ
  pub reads : ReadsPool bytes pool offset
  pub one : (p : PoolOf) (o : ℕ) → ReadsPool bytes p o → (p ≡ pool) × (o ≡ offset)
  pub no_fault : (o : ℕ) (r : Reason) → ¬ PoolFaulty bytes o r

-- no pool is read, and exactly one pair of offset and reason is faulty
pub record HasOneFault (bytes : List ℕ) : Type 0 where
  pub offset : ℕ
  pub reason : Reason
  pub faulty : PoolFaulty bytes offset reason
  pub one : (o : ℕ) (r : Reason) → PoolFaulty bytes o r → (o ≡ offset) × (r ≡ reason)
  pub no_pool : (p : PoolOf) (o : ℕ) → ¬ ReadsPool bytes p o

-- an entry stands in the file's bytes: its tag, and behind the tag the bytes of its body
pub record Stands (bytes : List ℕ) (s : Slot) : Type 0 where
  pub before : List ℕ
  pub piece : List ℕ
  pub after : List ℕ
  pub whole : bytes ≡ before ++ s.tag ∷ (piece ++ after)
  pub body_is : IsBody s.tag piece s.body
  pub left_is : s.left ≡ length (s.tag ∷ (piece ++ after))

-- a member that an entry names: its class, and by the entry's tag its name and descriptor
pub record IsSoundMember (m : MemberRefOf) : Type 0 where
  pub class_well : names_class m.class ≡ true
  pub named_well : names_any_member m.name m.descriptor ≡ true
  pub field : m.tag ≡ tags.field_ref → describes_field m.descriptor ≡ true
  pub method : m.tag ≡ tags.method_ref → names_used_method false m.name m.descriptor ≡ true
  pub interface_method : m.tag ≡ tags.interface_method_ref → names_used_method true m.name m.descriptor ≡ true

-- a use of a member: one that its kind may use
pub record IsSoundHandle (h : HandleRefOf) : Type 0 where
  pub fits : fits_handle h.kind h.member.tag ≡ true
  pub names : names_for_handle h.kind h.member.name ≡ true
  pub member_well : IsSoundMember h.member
