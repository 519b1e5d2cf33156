-- Numbers and lists: what is read stands in the grammar, and what stands there is read.
use Rattle.std.proofs.Common.{◌≡◌, ℕ, suc, zero, List, [], ◌∷◌, length, Result, Ok, Option, Some, None, refl, sym, ap, subst, ◌∙◌}
use Rattle.jc_desc.specs.declared.fault.Fault.{Fault}
use Rattle.jc_desc.specs.declared.fault.Reason.{Reason}
use Rattle.jc_desc.specs.Faults.{◌>>=◌, number_at}
use Rattle.jc_desc.proofs.Parts.{bind_ok, number_is, number_again}
use Rattle.jc_facts.specs.Names.{Bytes}
use Rattle.jc_facts.specs.file.Attributes.{need, list_at, counted_at}
use Rattle.jc_facts.specs.file.ClassGrammar.{IsNumberAt, AreItems, AreCounted}

-- ---- small facts

pub need_ok : {A : Type 0} (o : Option A) (left : ℕ) (reason : Reason) (y : A) → need o left reason ≡ Ok y → o ≡ Some y
need_ok None left reason y e = absurd cc
need_ok (Some x) left reason y e = ap (λ (z : _). Some z) (let q : x ≡ y = cc in q)

-- ---- numbers

pub number_stands : (n : ℕ) (bytes : Bytes) (x : ℕ × Bytes) → number_at n bytes ≡ Ok x → IsNumberAt n bytes x.0 x.1
number_stands n bytes x e =
    let k = number_is n bytes x.0 x.1 e in
    record { piece = k.0; whole = k.1; value_is = k.2 }

pub number_read : (n : ℕ) (bytes : Bytes) (value : ℕ) (rest : Bytes) → IsNumberAt n bytes value rest → number_at n bytes ≡ Ok (value, rest)
number_read n bytes value rest h = ap (λ (bs : Bytes). number_at n bs) h.whole ∙ number_again n h.piece value rest h.value_is

-- ---- lists of items

-- each item that is read stands in the grammar of items
abbrev pub Stands : {A : Type 0} → (Bytes → Result (A × Bytes) Fault) → (Bytes → A → Bytes → Type 0) → Type 0
Stands {A} item R = (bs : Bytes) (y : A × Bytes) → item bs ≡ Ok y → R bs y.0 y.1

-- each that stands there is read
abbrev pub IsRead : {A : Type 0} → (Bytes → Result (A × Bytes) Fault) → (Bytes → A → Bytes → Type 0) → Type 0
IsRead {A} item R = (bs : Bytes) (y : A) (rest : Bytes) → R bs y rest → item bs ≡ Ok (y, rest)

pub items_stand : {A : Type 0} (item : Bytes → Result (A × Bytes) Fault) (R : Bytes → A → Bytes → Type 0) → Stands item R → (n : ℕ) (bytes : Bytes) (x : List A × Bytes) → list_at item n bytes ≡ Ok x → (length x.0 ≡ n) × AreItems R bytes x.0 x.1
unfolding list_at
items_stand {A} item R each zero bytes x e =
    let q : ([], bytes) ≡ x = cc in
    subst (λ (y : List A × Bytes). (length y.0 ≡ 0) × AreItems R bytes y.0 y.1) q (refl, refl)
items_stand {A} item R each (suc n) bytes x e =
    let a = bind_ok (item bytes) (λ (one : A × Bytes). list_at item n one.1 >>= λ others. Ok (one.0 ∷ others.0, others.1)) x e in
    let b = bind_ok (list_at item n a.0.1) (λ (others : List A × Bytes). Ok (a.0.0 ∷ others.0, others.1)) x a.2 in
    let ih = items_stand item R each n a.0.1 b.0 b.1 in
    let q : (a.0.0 ∷ b.0.0, b.0.1) ≡ x = (let g = b.2 in cc) in
    subst (λ (y : List A × Bytes). (length y.0 ≡ suc n) × AreItems R bytes y.0 y.1) q (ap (λ (k : ℕ). suc k) ih.0, (a.0.1, each bytes a.0 a.1, ih.1))

pub items_read : {A : Type 0} (item : Bytes → Result (A × Bytes) Fault) (R : Bytes → A → Bytes → Type 0) → IsRead item R → (bytes : Bytes) (xs : List A) (rest : Bytes) → AreItems R bytes xs rest → list_at item (length xs) bytes ≡ Ok (xs, rest)
unfolding list_at
items_read {A} item R each bytes [] rest h = ap (λ (bs : Bytes). Ok ([], bs)) h
items_read {A} item R each bytes (x ∷ xs) rest h = rw (each bytes x h.0 h.1, items_read item R each h.0 xs rest h.2) refl

pub counted_stands : {A : Type 0} (item : Bytes → Result (A × Bytes) Fault) (R : Bytes → A → Bytes → Type 0) → Stands item R → Stands (counted_at item) (AreCounted R)
unfolding counted_at
counted_stands {A} item R each bytes x e =
    let a = bind_ok (number_at 2 bytes) (λ (n : ℕ × Bytes). list_at item n.0 n.1) x e in
    let k = items_stand item R each a.0.0 a.0.1 x a.2 in
    record { after_count = a.0.1; count_is = subst (λ (m : ℕ). IsNumberAt 2 bytes m a.0.1) (sym k.0) (number_stands 2 bytes a.0 a.1); items_are = k.1 }

pub counted_read : {A : Type 0} (item : Bytes → Result (A × Bytes) Fault) (R : Bytes → A → Bytes → Type 0) → IsRead item R → IsRead (counted_at item) (AreCounted R)
unfolding counted_at
counted_read {A} item R each bytes xs rest h = rw (number_read 2 bytes (length xs) h.after_count h.count_is, items_read item R each h.after_count xs rest h.items_are) refl
