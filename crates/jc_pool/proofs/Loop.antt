-- The loop over the entries.
use Rattle.std.proofs.Common.{◌≡◌, ℕ, suc, ◌-◌, Bool, true, false, nat_lt, List, [], ◌∷◌, ◌++◌, Result, Ok, Err, refl, sym, ap, ◌∙◌, append_assoc, arith}
use Rattle.std.proofs.lemmas.List.{append-nil}
use Rattle.std.proofs.lemmas.Bool.Decides.{nat_tests}
use Rattle.jc_desc.specs.declared.fault.Fault.{Fault}
use Rattle.jc_desc.specs.Faults.{◌>>=◌}
use Rattle.jc_desc.specs.Pool.{Slot, is_wide_tag, nothing}
use Rattle.jc_desc.specs.PoolSteps.{slots_at, entry_from}
use Rattle.jc_pool.specs.steps.Slots.{with_front}

pub regroup : {A : Type 0} (front : List A) (x : A) (read : Result (List A × List ℕ) Fault) → with_front front (read >>= λ y. Ok (x ∷ y.0, y.1)) ≡ with_front (front ++ x ∷ []) read
regroup {A} front x (Err e) = refl
regroup {A} front x (Ok y) = ap (λ (zs : List A). Ok (zs, y.1)) (simp append_assoc)

pub step_second : (g : Bool) (front : List Slot) (n m : ℕ) (bytes : List ℕ) (total : Result (List Slot × List ℕ) Fault) → g ≡ true → n ≡ suc m
    → with_front front (slots_at g n bytes) ≡ total → with_front (front ++ nothing ∷ []) (slots_at false m bytes) ≡ total
unfolding slots_at
step_second g front n m bytes total q k h =
    let one : with_front front (slots_at g n bytes) ≡ with_front (front ++ nothing ∷ []) (slots_at false m bytes) = rw (q, k) (regroup front nothing (slots_at false m bytes)) in
    sym one ∙ h

pub step_entry : (g : Bool) (front : List Slot) (n m : ℕ) (bytes : List ℕ) (f : Bool) (e : Slot) (after : List ℕ) (total : Result (List Slot × List ℕ) Fault) → g ≡ false → n ≡ suc m → f ≡ nat_lt 0 m → entry_from f bytes ≡ Ok (e, after)
    → with_front front (slots_at g n bytes) ≡ total → with_front (front ++ e ∷ []) (slots_at (is_wide_tag e.tag) m after) ≡ total
unfolding slots_at
step_entry g front n m bytes f e after total q k w r h =
    let r' : entry_from (nat_lt 0 m) bytes ≡ Ok (e, after) = ap (λ (b : Bool). entry_from b bytes) (sym w) ∙ r in
    let one : with_front front (slots_at g n bytes) ≡ with_front (front ++ e ∷ []) (slots_at (is_wide_tag e.tag) m after) = rw (q, k, r') (regroup front e (slots_at (is_wide_tag e.tag) m after)) in
    sym one ∙ h

pub step_fault : (g : Bool) (front : List Slot) (n m : ℕ) (bytes : List ℕ) (f : Bool) (e : Fault) (total : Result (List Slot × List ℕ) Fault) → g ≡ false → n ≡ suc m → f ≡ nat_lt 0 m → entry_from f bytes ≡ Err e
    → with_front front (slots_at g n bytes) ≡ total → Err e ≡ total
unfolding slots_at
step_fault g front n m bytes f e total q k w r h =
    let r' : entry_from (nat_lt 0 m) bytes ≡ Err e = ap (λ (b : Bool). entry_from b bytes) (sym w) ∙ r in
    let one : with_front front (slots_at g n bytes) ≡ Err e = rw (q, k, r') refl in
    sym one ∙ h

pub end_done : (g : Bool) (front : List Slot) (n : ℕ) (bytes : List ℕ) (total : Result (List Slot × List ℕ) Fault) → n ≡ 0
    → with_front front (slots_at g n bytes) ≡ total → Ok (front, bytes) ≡ total
unfolding slots_at
end_done g front n bytes total k h =
    let one : with_front front (slots_at g n bytes) ≡ Ok (front, bytes) = rw k (ap (λ (zs : List Slot). Ok (zs, bytes)) (append-nil front)) in
    sym one ∙ h

pub lt_gap : (a b : ℕ) → nat_lt a b ≡ nat_lt 0 (b - a)
lt_gap a b = grind (arith, nat_tests)
