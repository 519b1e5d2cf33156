-- Loops over items with their number in front.
use Rattle.std.proofs.Common.{◌≡◌, ℕ, suc, zero, ◌-◌, ◌+◌, ◌<◌, Bool, false, cond, nat_eq, List, [], ◌∷◌, ◌++◌, length, Option, Some, Result, Ok, Err, refl, sym, ap, ◌∙◌, append_assoc, arith}
use Rattle.std.specs.Prelude.{slice_get}
use Rattle.std.proofs.lemmas.List.{append-nil, length-append}
use Rattle.std.proofs.lemmas.Bool.Decides.{nat_tests}
use Rattle.jc_desc.specs.declared.fault.Fault.{Fault}
use Rattle.jc_desc.specs.Faults.{◌>>=◌}
use Rattle.jc_facts.specs.Names.{Bytes}
use Rattle.jc_facts.specs.file.Attributes.{list_at, behind}
use Rattle.jc_attr.specs.steps.Front.{with_front, picked}
use Rattle.jc_lemmas.proofs.Numbers.{suc_zero}

-- ---- the items

pub regroup : {A : Type 0} (front : List A) (x : A) (read : Result (List A × Bytes) Fault) → with_front front (read >>= λ y. Ok (x ∷ y.0, y.1)) ≡ with_front (front ++ x ∷ []) read
regroup {A} front x (Err e) = refl
regroup {A} front x (Ok y) = ap (λ (zs : List A). Ok (zs, y.1)) (simp append_assoc)

pub list_step : {A : Type 0} (item : Bytes → Result (A × Bytes) Fault) (front : List A) (n m : ℕ) (bytes : Bytes) (x : A) (next : Bytes) (total : Result (List A × Bytes) Fault) → n ≡ suc m → item bytes ≡ Ok (x, next)
    → with_front front (list_at item n bytes) ≡ total → with_front (front ++ x ∷ []) (list_at item m next) ≡ total
unfolding list_at
list_step {A} item front n m bytes x next total k r h =
    let one : with_front front (list_at item n bytes) ≡ with_front (front ++ x ∷ []) (list_at item m next) = rw (k, r) (regroup front x (list_at item m next)) in
    sym one ∙ h

pub list_fault : {A : Type 0} (item : Bytes → Result (A × Bytes) Fault) (front : List A) (n : ℕ) (bytes : Bytes) (e : Fault) (total : Result (List A × Bytes) Fault) → 0 < n → item bytes ≡ Err e
    → with_front front (list_at item n bytes) ≡ total → Err e ≡ total
unfolding list_at
list_fault {A} item front n bytes e total p r h =
    let k : n ≡ suc (n - 1) = omega arith in
    let one : with_front front (list_at item n bytes) ≡ Err e = rw (k, r) refl in
    sym one ∙ h

pub list_done : {A : Type 0} (item : Bytes → Result (A × Bytes) Fault) (front : List A) (n : ℕ) (bytes : Bytes) (total : Result (List A × Bytes) Fault) → n ≡ 0
    → with_front front (list_at item n bytes) ≡ total → Ok (front, bytes) ≡ total
unfolding list_at
list_done {A} item front n bytes total k h =
    let one : with_front front (list_at item n bytes) ≡ Ok (front, bytes) = rw k (ap (λ (zs : List A). Ok (zs, bytes)) (append-nil front)) in
    sym one ∙ h

-- ---- what comes behind them

behind_one : {A : Type 0} (x : A) (read : Result (List A × Bytes) Fault) → behind (read >>= λ y. Ok (x ∷ y.0, y.1)) ≡ behind read
behind_one {A} x (Err e) = refl
behind_one {A} x (Ok y) = refl

pub behind_step : {A : Type 0} (item : Bytes → Result (A × Bytes) Fault) (n m : ℕ) (bytes next : Bytes) (total : Result Bytes Fault) → n ≡ suc m → behind (item bytes) ≡ Ok next
    → behind (list_at item n bytes) ≡ total → behind (list_at item m next) ≡ total
unfolding list_at
behind_step {A} item n m bytes next total k r h = go (item bytes) refl r
  where
    go : (read : Result (A × Bytes) Fault) → item bytes ≡ read → behind read ≡ Ok next → behind (list_at item m next) ≡ total
    go (Err e) q s = absurd (cc)
    go (Ok x) q s =
        let same : x.1 ≡ next = cc in
        let one : behind (list_at item n bytes) ≡ behind (list_at item m x.1) = rw (k, q) (behind_one x.0 (list_at item m x.1)) in
        ap (λ (rest : Bytes). behind (list_at item m rest)) (sym same) ∙ sym one ∙ h

pub behind_fault : {A : Type 0} (item : Bytes → Result (A × Bytes) Fault) (n : ℕ) (bytes : Bytes) (e : Fault) (total : Result Bytes Fault) → 0 < n → behind (item bytes) ≡ Err e → behind (list_at item n bytes) ≡ total → Err e ≡ total
unfolding list_at
behind_fault {A} item n bytes e total p r h = go (item bytes) refl r
  where
    go : (read : Result (A × Bytes) Fault) → item bytes ≡ read → behind read ≡ Err e → Err e ≡ total
    go (Ok x) q s = absurd (cc)
    go (Err f) q s =
        let same : f ≡ e = cc in
        let k : n ≡ suc (n - 1) = omega arith in
        let one : behind (list_at item n bytes) ≡ Err f = rw (k, q) refl in
        ap (λ (g : Fault). Err g) (sym same) ∙ sym one ∙ h

pub behind_done : {A : Type 0} (item : Bytes → Result (A × Bytes) Fault) (n : ℕ) (bytes : Bytes) (total : Result Bytes Fault) → n ≡ 0 → behind (list_at item n bytes) ≡ total → Ok bytes ≡ total
unfolding list_at
behind_done {A} item n bytes total k h =
    let one : behind (list_at item n bytes) ≡ Ok bytes = rw k refl in
    sym one ∙ h

-- ---- one of them

zero_suc : (n : ℕ) → nat_eq 0 (suc n) ≡ false
zero_suc n = grind (arith, nat_tests)

suc_suc : (a b : ℕ) → nat_eq (suc a) (suc b) ≡ nat_eq a b
suc_suc a b = grind (arith, nat_tests)

pub get_push : {A : Type 0} (xs : List A) (x : A) (n : ℕ) → slice_get (xs ++ x ∷ []) n ≡ cond (nat_eq (length xs) n) (Some x) (slice_get xs n)
get_push {A} [] x zero = refl
get_push {A} [] x (suc n) = rw (zero_suc n) refl
get_push {A} (y ∷ ys) x zero = rw (suc_zero (length ys)) refl
get_push {A} (y ∷ ys) x (suc n) = get_push ys x n ∙ ap (λ (b : Bool). cond b (Some x) (slice_get ys n)) (sym (suc_suc (length ys) n))

-- the items in front, among which the one of this number was looked for, and what is still read
abbrev pub Found : {A : Type 0} → (Bytes → Result (A × Bytes) Fault) → ℕ → ℕ → ℕ → Option A → Bytes → Result (List A × Bytes) Fault → Type 0
Found {A} item number i n found bytes total = (front : List A) × (length front ≡ i) × (found ≡ slice_get front number) × (with_front front (list_at item n bytes) ≡ total)

pub found_step : {A : Type 0} (item : Bytes → Result (A × Bytes) Fault) (number i n m : ℕ) (found : Option A) (bytes : Bytes) (x : A) (next : Bytes) (total : Result (List A × Bytes) Fault) (now : Option A) → n ≡ suc m → item bytes ≡ Ok (x, next)
    → now ≡ cond (nat_eq i number) (Some x) found → Found item number i n found bytes total → Found item number (i + 1) m now next total
found_step {A} item number i n m found bytes x next total now k r w h = (
  h.0 ++ x ∷ [],
  length_push h.0 x i h.1,
  w ∙ ap (λ (o : Option A). cond (nat_eq i number) (Some x) o) h.2 ∙ ap (λ (j : ℕ). cond (nat_eq j number) (Some x) (slice_get h.0 number)) (sym h.1) ∙ sym (get_push h.0 x number),
  list_step item h.0 n m bytes x next total k r h.3,
) where
  length_push : {A : Type 0} (xs : List A) (x : A) (j : ℕ) → length xs ≡ j → length (xs ++ x ∷ []) ≡ j + 1
  length_push {A} xs x j e = simp length-append (omega (arith, e))

pub found_fault : {A : Type 0} (item : Bytes → Result (A × Bytes) Fault) (number i n : ℕ) (found : Option A) (bytes : Bytes) (e : Fault) (total : Result (List A × Bytes) Fault) → 0 < n → item bytes ≡ Err e → Found item number i n found bytes total → Err e ≡ picked number total
found_fault {A} item number i n found bytes e total p r h = ap (λ (t : Result (List A × Bytes) Fault). picked number t) (list_fault item h.0 n bytes e total p r h.3)

pub found_done : {A : Type 0} (item : Bytes → Result (A × Bytes) Fault) (number i n : ℕ) (found : Option A) (bytes : Bytes) (total : Result (List A × Bytes) Fault) → n ≡ 0 → Found item number i n found bytes total → Ok (found, bytes) ≡ picked number total
found_done {A} item number i n found bytes total k h = ap (λ (o : Option A). Ok (o, bytes)) h.2 ∙ ap (λ (t : Result (List A × Bytes) Fault). picked number t) (list_done item h.0 n bytes total k h.3)
