-- Indices of classes, and the class itself, both ways.
use Rattle.std.proofs.Common.{◌≡◌, ◌≢◌, ℕ, Bool, true, false, not, length, Result, Ok, Option, Some, None, inl, inr, refl, subst, nat_eq}
use Rattle.std.proofs.lemmas.Bool.{eqb-true, eqb-false, not-true}
use Rattle.jc_desc.specs.declared.fault.Fault.{Fault}
use Rattle.jc_desc.specs.declared.fault.Reason.TheVariants as reasons
use Rattle.jc_desc.specs.Faults.{◌>>=◌, number_at, check}
use Rattle.jc_desc.specs.Pool.{PoolOf}
use Rattle.jc_desc.specs.PoolAnswers.{class_in}
use Rattle.jc_desc.proofs.Parts.{bind_ok, check_ok}
use Rattle.jc_desc.proofs.Grammar.{chosen}
use Rattle.jc_facts.specs.Flags.{interface_flag}
use Rattle.jc_facts.specs.Names.{Bytes}
use Rattle.jc_facts.specs.file.Rules.{is_object_name, implies, class_flags_fit}
use Rattle.jc_facts.specs.file.Attributes.{need, is_array_name, plain_class_at, class_from}
use Rattle.jc_facts.specs.file.ClassParts.{ClassHead}
use Rattle.jc_facts.specs.file.ClassGrammar.{NamesClass, IsClassAt, IsSuperclass, IsHeadAt}
use Rattle.jc_facts.specs.file.ClassSteps.{some_superclass_at, superclass_from, head_from}
use Rattle.jc_facts.proofs.Front.{need_ok, number_stands, number_read, Stands, IsRead}

pub plain_stands : (pool : PoolOf) (left i : ℕ) (name : Bytes) → plain_class_at pool left i ≡ Ok name → NamesClass pool i name
plain_stands pool left i name e =
    let a = bind_ok (need (class_in pool i) left reasons.BadIndex) (λ (n : Bytes). check (not (is_array_name n)) left reasons.BadName (Ok n)) name e in
    let k = check_ok (not (is_array_name a.0)) left reasons.BadName (Ok a.0) name a.2 in
    let q : a.0 ≡ name = (let g = k.1 in cc) in
    subst (NamesClass pool i) q (record { class_is = need_ok (class_in pool i) left reasons.BadIndex a.0 a.1; no_array = not-true (is_array_name a.0) k.0 })

pub plain_read : (pool : PoolOf) (left i : ℕ) (name : Bytes) → NamesClass pool i name → plain_class_at pool left i ≡ Ok name
plain_read pool left i name h = rw (h.class_is, h.no_array) refl

pub class_stands : (pool : PoolOf) → Stands (class_from pool) (IsClassAt pool)
unfolding class_from
class_stands pool bytes x e =
    let a = bind_ok (number_at 2 bytes) (λ (i : ℕ × Bytes). plain_class_at pool (length bytes) i.0 >>= λ name. Ok (name, i.1)) x e in
    let b = bind_ok (plain_class_at pool (length bytes) a.0.0) (λ (name : Bytes). Ok (name, a.0.1)) x a.2 in
    let q : (b.0, a.0.1) ≡ x = (let g = b.2 in cc) in
    subst (λ (y : Bytes × Bytes). IsClassAt pool bytes y.0 y.1) q (record { index = a.0.0; index_is = number_stands 2 bytes a.0 a.1; names = plain_stands pool (length bytes) a.0.0 b.0 b.1 })

pub class_read : (pool : PoolOf) → IsRead (class_from pool) (IsClassAt pool)
unfolding class_from
class_read pool bytes name rest h = rw (number_read 2 bytes h.index rest h.index_is, plain_read pool (length bytes) h.index name h.names) refl

-- ---- the superclass

super_stands : (pool : PoolOf) (left : ℕ) (object interface : Bool) (i : ℕ) (x : Option Bytes) → superclass_from pool left object interface i ≡ Ok x → IsSuperclass pool object interface i x
super_stands pool left object interface i x e = elim (chosen (nat_eq i 0) _ _ _ e) [
  | inl a ↦
      (let k = check_ok object left reasons.BadIndex (Ok None) x a.1 in
      let q : None ≡ x = (let g = k.1 in cc) in
      subst (IsSuperclass pool object interface i) q (eqb-true i 0 a.0, k.0))
  | inr a ↦
      (let k = check_ok (not object) left reasons.BadIndex (some_superclass_at pool left interface i) x a.1 in
      let n = bind_ok (plain_class_at pool left i) (λ (name : Bytes). check (implies interface (is_object_name name)) left reasons.BadName (Ok (Some name))) x k.1 in
      let o = check_ok (implies interface (is_object_name n.0)) left reasons.BadName (Ok (Some n.0)) x n.2 in
      let q : Some n.0 ≡ x = (let g = o.1 in cc) in
      subst (IsSuperclass pool object interface i) q (eqb-false i 0 a.0, k.0, plain_stands pool left i n.0 n.1, o.0))
]

not_zero : (i : ℕ) → i ≢ 0 → nat_eq i 0 ≡ false
not_zero i h = go (nat_eq i 0) refl where
  go : (b : Bool) → nat_eq i 0 ≡ b → b ≡ false
  go true e = absurd (h (eqb-true i 0 e))
  go false e = refl

super_read : (pool : PoolOf) (left : ℕ) (object interface : Bool) (i : ℕ) (x : Option Bytes) → IsSuperclass pool object interface i x → superclass_from pool left object interface i ≡ Ok x
super_read pool left object interface i None h = rw (h.0, h.1) refl
super_read pool left object interface i (Some s) h = rw (not_zero i h.0, h.1, plain_read pool left i s h.2, h.3) refl

-- ---- flags, class and superclass

abbrev Number : Type 0
Number = ℕ × Bytes

abbrev to_super : PoolOf → Number → Number → Bytes → Result (ClassHead × Bytes) Fault
to_super pool flags this name =
    number_at 2 this.1 >>= λ super. superclass_from pool (length this.1) (is_object_name name) (interface_flag flags.0) super.0 >>= λ superclass.
    Ok (record { flags = flags.0; name = name; superclass = superclass }, super.1)

pub head_stands : (pool : PoolOf) → Stands (head_from pool) (IsHeadAt pool)
unfolding head_from
head_stands pool bytes x e =
    let a = bind_ok (number_at 2 bytes) (λ (flags : Number). check (class_flags_fit pool.major flags.0) (length bytes) reasons.BadFlags (number_at 2 flags.1) >>= λ this. plain_class_at pool (length flags.1) this.0 >>= λ name. to_super pool flags this name) x e in
    let b = bind_ok (check (class_flags_fit pool.major a.0.0) (length bytes) reasons.BadFlags (number_at 2 a.0.1)) (λ (this : Number). plain_class_at pool (length a.0.1) this.0 >>= λ name. to_super pool a.0 this name) x a.2 in
    let n = bind_ok (plain_class_at pool (length a.0.1) b.0.0) (λ (name : Bytes). to_super pool a.0 b.0 name) x b.2 in
    let s = bind_ok (number_at 2 b.0.1) (λ (super : Number). superclass_from pool (length b.0.1) (is_object_name n.0) (interface_flag a.0.0) super.0 >>= λ superclass. Ok (record { flags = a.0.0; name = n.0; superclass = superclass }, super.1)) x n.2 in
    let u = bind_ok (superclass_from pool (length b.0.1) (is_object_name n.0) (interface_flag a.0.0) s.0.0) (λ (superclass : Option Bytes). Ok (record { flags = a.0.0; name = n.0; superclass = superclass }, s.0.1)) x s.2 in
    let f = check_ok (class_flags_fit pool.major a.0.0) (length bytes) reasons.BadFlags (number_at 2 a.0.1) b.0 b.1 in
    let q : (record { flags = a.0.0; name = n.0; superclass = u.0 }, s.0.1) ≡ x = (let g = u.2 in cc) in
    subst (λ (y : ClassHead × Bytes). IsHeadAt pool bytes y.0 y.1) q (record {
      after_flags = a.0.1;
      after_this = b.0.1;
      this = b.0.0;
      super = s.0.0;
      flags_is = number_stands 2 bytes a.0 a.1;
      flags_fit = f.0;
      this_is = number_stands 2 a.0.1 b.0 f.1;
      this_names = plain_stands pool (length a.0.1) b.0.0 n.0 n.1;
      super_is = number_stands 2 b.0.1 s.0 s.1;
      super_names = super_stands pool (length b.0.1) (is_object_name n.0) (interface_flag a.0.0) s.0.0 u.0 u.1;
    })

pub head_read : (pool : PoolOf) → IsRead (head_from pool) (IsHeadAt pool)
unfolding head_from
head_read pool bytes x rest h =
    rw (
      number_read 2 bytes x.flags h.after_flags h.flags_is,
      h.flags_fit,
      number_read 2 h.after_flags h.this h.after_this h.this_is,
      plain_read pool (length h.after_flags) h.this x.name h.this_names,
      number_read 2 h.after_this h.super rest h.super_is,
      super_read pool (length h.after_this) (is_object_name x.name) (interface_flag x.flags) h.super x.superclass h.super_names,
    ) refl
