-- Stacks and locals.
use Rattle.std.proofs.Common.{◌≡◌, ℕ, zero, suc, ◌-◌, ◌<◌, ◌≤◌, false, nat_lt, List, [], ◌∷◌, ◌++◌, map, take, drop, set, length, Some, None, refl, sym, ap, ◌∙◌, arith}
use Rattle.std.proofs.lemmas.List.{length-map, drop-map, take-map, map-set, map_push, append-nil}
use Rattle.std.proofs.lemmas.Bool.Decides.{nat_tests}
use Rattle.jc_facts.specs.Names.{Bytes}
use Rattle.jc_facts.specs.code.Typing.{Kind, empty, pop, taken, set_at, made, all_made}
use Rattle.jc_code.proofs.Mapped.{map_twice}
use Rattle.jc_facts.proofs.Typing.{pop_push}

-- ---- the stack

no_fewer : (a b : ℕ) → b ≤ a → nat_lt a b ≡ false
no_fewer a b p = grind (arith, nat_tests)

pub taken_is : {X : Type 0} (view : X → Kind) (xs : List X) (n : ℕ) → n ≤ length xs → Some (map view (drop (length xs - n) xs), map view (take (length xs - n) xs)) ≡ taken n (map view xs)
unfolding taken
taken_is {X} view xs n p = rw (length-map xs view, no_fewer (length xs) n p, drop-map view (length xs - n) xs, take-map view (length xs - n) xs) refl

pub taken_at : {X : Type 0} (view : X → Kind) (xs : List X) (n m : ℕ) → n ≤ length xs → m ≡ length xs - n → Some (map view (drop m xs), map view (take m xs)) ≡ taken n (map view xs)
taken_at {X} view xs n m p e = rw e (taken_is view xs n p)

-- ---- the locals

less : (n m : ℕ) → suc n < suc m → n < m
less n m p = omega (arith, p)

pub set_inside : (n : ℕ) (k : Kind) (ks : List Kind) → n < length ks → set_at n k ks ≡ set ks n k
unfolding set_at
set_inside zero k [] p = absurd (omega (arith, p))
set_inside (suc n) k [] p = absurd (omega (arith, p))
set_inside zero k (x ∷ ks) p = refl
set_inside (suc n) k (x ∷ ks) p = ap (λ (zs : List Kind). x ∷ zs) (set_inside n k ks (less n (length ks) p))

pub set_end : (ks : List Kind) (k : Kind) → set_at (length ks) k ks ≡ ks ++ k ∷ []
unfolding set_at
set_end [] k = refl
set_end (x ∷ ks) k = ap (λ (zs : List Kind). x ∷ zs) (set_end ks k)

pub set_pad : (n : ℕ) (k : Kind) (ks : List Kind) → length ks < n → set_at n k (ks ++ empty ∷ []) ≡ set_at n k ks
unfolding set_at
set_pad zero k ks p = absurd (omega (arith, p))
set_pad (suc n) k [] p = refl
set_pad (suc n) k (x ∷ ks) p = ap (λ (zs : List Kind). x ∷ zs) (set_pad n k ks (less (length ks) n p))

pub set_written : {X : Type 0} (view : X → Kind) (n : ℕ) (x : X) (xs : List X) (old : List Kind) → n < length xs → ((k : Kind) → set_at n k (map view xs) ≡ set_at n k old) → map view (set xs n x) ≡ set_at n (view x) old
set_written {X} view n x xs old p same = map-set view xs n x ∙ sym (set_inside n (view x) (map view xs) (rw (length-map xs view) p)) ∙ same (view x)

pub set_pushed : {X : Type 0} (view : X → Kind) (n : ℕ) (x : X) (xs : List X) (old : List Kind) → n ≡ length xs → ((k : Kind) → set_at n k (map view xs) ≡ set_at n k old) → map view (xs ++ x ∷ []) ≡ set_at n (view x) old
set_pushed {X} view n x xs old p same =
    let long : n ≡ length (map view xs) = p ∙ sym (length-map xs view) in
    map_push view xs x ∙ sym (ap (λ (m : ℕ). set_at m (view x) (map view xs)) long ∙ set_end (map view xs) (view x)) ∙ same (view x)

pub pad_step : {X : Type 0} (view : X → Kind) (n : ℕ) (x : X) (xs : List X) (old : List Kind) → view x ≡ empty → length xs < n → ((k : Kind) → set_at n k (map view xs) ≡ set_at n k old) → (k : Kind) → set_at n k (map view (xs ++ x ∷ [])) ≡ set_at n k old
pad_step {X} view n x xs old e p same k = rw (map_push view xs x, e) (set_pad n k (map view xs) (rw (length-map xs view) p) ∙ same k)

pub popped_none : {X : Type 0} (view : X → Kind) (xs : List X) → length xs ≡ 0 → None ≡ pop (map view xs)
unfolding pop
popped_none {X} view [] e = refl
popped_none {X} view (x ∷ xs) e = absurd (omega (arith, e))

pub popped_some : {X : Type 0} (view : X → Kind) (xs ys : List X) (x : X) → xs ≡ ys ++ x ∷ [] → Some (view x, map view ys) ≡ pop (map view xs)
popped_some {X} view xs ys x e = rw (e, map_push view ys x, pop_push (map view ys) (view x)) refl

-- ---- loops

pub all_made_is : {X : Type 0} (view : X → Kind) (from : Kind) (name : Bytes) (all : List Kind) (rest xs : List X) → rest ≡ [] → all ++ map (λ (x : X). made from name (view x)) rest ≡ map (λ (x : X). made from name (view x)) xs → all ≡ all_made from name (map view xs)
unfolding all_made
all_made_is {X} view from name all rest xs e h =
    let ended : all ++ map (λ (x : X). made from name (view x)) rest ≡ all = rw e (append-nil all) in
    sym ended ∙ h ∙ map_twice (made from name) view xs
