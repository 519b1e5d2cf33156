-- A class file that is read stands in the grammar, and one that stands there is read; bytes have one record or one first fault.
use Rattle.std.proofs.Common.{◌≡◌, ℕ, ◌-◌, true, false, List, [], ◌∷◌, length, Result, Ok, Err, ◌⊎◌, inl, inr, refl, sym, ap, subst, ◌∙◌}
use Rattle.jc_desc.specs.declared.fault.Fault.{Fault}
use Rattle.jc_desc.specs.declared.fault.Reason.{Reason}
use Rattle.jc_desc.specs.Faults.{◌>>=◌}
use Rattle.jc_desc.specs.Pool.{PoolOf}
use Rattle.jc_desc.specs.PoolSteps.{pool_at}
use Rattle.jc_desc.proofs.Parts.{bind_ok}
use Rattle.jc_desc.proofs.Pools.{pool_is, pool_again}
use Rattle.jc_facts.specs.declared.class_facts.ClassFacts.{ClassFacts}
use Rattle.jc_facts.specs.Names.{Bytes}
use Rattle.jc_facts.specs.file.Attributes.{counted_at, class_from}
use Rattle.jc_facts.specs.file.ClassParts.{ClassHead, ReadMember, OnClass, record_from}
use Rattle.jc_facts.specs.file.ClassGrammar.{AreCounted, IsClassAt, IsAttributeAt, IsClassFile, Reads}
use Rattle.jc_facts.specs.file.ClassSteps.{head_from, counted_members_at, counted_attributes_at, class_takes, nothing_on_class, ended, class_of, IsFaulty}
use Rattle.jc_facts.proofs.Front.{counted_stands, counted_read}
use Rattle.jc_facts.proofs.ClassIndices.{class_stands, class_read, head_stands, head_read}
use Rattle.jc_facts.proofs.AttributeLists.{counted_attributes_stand, counted_attributes_read}
use Rattle.jc_facts.proofs.Contents.{class_says, class_said}
use Rattle.jc_facts.proofs.ClassMembers.{counted_members_stand, counted_members_read}

ended_is : {A : Type 0} (rest : Bytes) (x y : A) → ended rest x ≡ Ok y → (rest ≡ []) × (x ≡ y)
ended_is {A} [] x y e = (refl, cc)
ended_is {A} (b ∷ bs) x y e = absurd cc

abbrev to_end : PoolOf → ClassHead → List Bytes → List ReadMember → List ReadMember → OnClass × Bytes → Result ClassFacts Fault
to_end pool head interfaces fields methods found = ended found.1 (record_from pool.major head interfaces fields methods found.0)

abbrev from_methods : PoolOf → ClassHead → List Bytes → List ReadMember → List ReadMember × Bytes → Result ClassFacts Fault
from_methods pool head interfaces fields methods = counted_attributes_at (class_takes pool) pool nothing_on_class methods.1 >>= to_end pool head interfaces fields methods.0

abbrev from_fields : PoolOf → ClassHead → List Bytes → List ReadMember × Bytes → Result ClassFacts Fault
from_fields pool head interfaces fields = counted_members_at true pool head.flags fields.1 >>= from_methods pool head interfaces fields.0

abbrev from_interfaces : PoolOf → ClassHead → List Bytes × Bytes → Result ClassFacts Fault
from_interfaces pool head interfaces = counted_members_at false pool head.flags interfaces.1 >>= from_fields pool head interfaces.0

abbrev from_head : PoolOf → ClassHead × Bytes → Result ClassFacts Fault
from_head pool head = counted_at (class_from pool) head.1 >>= from_interfaces pool head.0

pub class_file_stands : (bytes : Bytes) (c : ClassFacts) → class_of bytes ≡ Ok c → IsClassFile bytes c
unfolding class_of
class_file_stands bytes c e =
    let p = bind_ok (pool_at bytes) (λ (pool : PoolOf × Bytes). head_from pool.0 pool.1 >>= from_head pool.0) c e in
    let pool : PoolOf = p.0.0 in
    let h = bind_ok (head_from pool p.0.1) (from_head pool) c p.2 in
    let i = bind_ok (counted_at (class_from pool) h.0.1) (from_interfaces pool h.0.0) c h.2 in
    let f = bind_ok (counted_members_at false pool h.0.0.flags i.0.1) (from_fields pool h.0.0 i.0.0) c i.2 in
    let m = bind_ok (counted_members_at true pool h.0.0.flags f.0.1) (from_methods pool h.0.0 i.0.0 f.0.0) c f.2 in
    let a = bind_ok (counted_attributes_at (class_takes pool) pool nothing_on_class m.0.1) (to_end pool h.0.0 i.0.0 f.0.0 m.0.0) c m.2 in
    let t = counted_attributes_stand (class_takes pool) pool nothing_on_class m.0.1 a.0 a.1 in
    let d = ended_is a.0.1 (record_from pool.major h.0.0 i.0.0 f.0.0 m.0.0 a.0.0) c a.2 in
    record {
      pool = pool;
      head = h.0.0;
      interfaces = i.0.0;
      fields = f.0.0;
      methods = m.0.0;
      attributes = t.0;
      found = a.0.0;
      after_pool = p.0.1;
      after_head = h.0.1;
      after_interfaces = i.0.1;
      after_fields = f.0.1;
      after_methods = m.0.1;
      pool_is = pool_is bytes p.0 p.1;
      head_is = head_stands pool p.0.1 h.0 h.1;
      interfaces_are = counted_stands (class_from pool) (IsClassAt pool) (class_stands pool) h.0.1 i.0 i.1;
      fields_are = counted_members_stand false pool h.0.0.flags i.0.1 f.0 f.1;
      methods_are = counted_members_stand true pool h.0.0.flags f.0.1 m.0 m.1;
      attributes_are = subst (λ (bs : Bytes). AreCounted (IsAttributeAt pool) m.0.1 t.0 bs) d.0 t.1;
      found_is = class_says pool t.0 a.0.0 t.2;
      record_is = sym d.1;
    }

pub class_file_read : (bytes : Bytes) (c : ClassFacts) → IsClassFile bytes c → class_of bytes ≡ Ok c
unfolding class_of
class_file_read bytes c h =
    rw (
      pool_again bytes h.pool h.after_pool h.pool_is,
      head_read h.pool h.after_pool h.head h.after_head h.head_is,
      counted_read (class_from h.pool) (IsClassAt h.pool) (class_read h.pool) h.after_head h.interfaces h.after_interfaces h.interfaces_are,
      counted_members_read false h.pool h.head.flags h.after_interfaces h.fields h.after_fields h.fields_are,
      counted_members_read true h.pool h.head.flags h.after_fields h.methods h.after_methods h.methods_are,
      counted_attributes_read (class_takes h.pool) h.pool nothing_on_class h.found h.after_methods h.attributes [] h.attributes_are (class_said h.pool h.attributes h.found h.found_is),
    )
    (ap (λ (d : ClassFacts). Ok d) (sym h.record_is))

-- ---- one record, or one first fault

pub either : (bytes : Bytes) → ((c : ClassFacts) × Reads bytes c) ⊎ ((offset : ℕ) × (reason : Reason) × IsFaulty bytes offset reason)
either bytes = go (class_of bytes) refl where
  go : (r : Result ClassFacts Fault) → class_of bytes ≡ r → ((c : ClassFacts) × Reads bytes c) ⊎ ((offset : ℕ) × (reason : Reason) × IsFaulty bytes offset reason)
  go (Ok c) e = inl (c, class_file_stands bytes c e)
  go (Err f) e = inr (length bytes - f.left, f.reason, (f, e, refl, refl))

pub never_both : (bytes : Bytes) (c : ClassFacts) (offset : ℕ) (reason : Reason) → Reads bytes c → IsFaulty bytes offset reason → ⊥
never_both bytes c offset reason r f = (let q : Ok c ≡ Err f.0 = sym (class_file_read bytes c r) ∙ f.1 in cc)

pub one_record : (bytes : Bytes) (c d : ClassFacts) → Reads bytes c → Reads bytes d → c ≡ d
one_record bytes c d p q = (let e : Ok c ≡ Ok d = sym (class_file_read bytes c p) ∙ class_file_read bytes d q in cc)

pub one_fault : (bytes : Bytes) (o p : ℕ) (r s : Reason) → IsFaulty bytes o r → IsFaulty bytes p s → (o ≡ p) × (r ≡ s)
one_fault bytes o p r s f g =
    let e : f.0 ≡ g.0 = (let q : Err f.0 ≡ Err g.0 = sym f.1 ∙ g.1 in cc) in
    (f.2 ∙ ap (λ (x : Fault). length bytes - x.left) e ∙ sym g.2, f.3 ∙ ap (λ (x : Fault). x.reason) e ∙ sym g.3)
