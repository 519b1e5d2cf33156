-- A test of each item, from an index on.
use Rattle.std.proofs.Common.{◌≡◌, ℕ, ◌+◌, ◌<◌, Bool, true, false, ◌&&◌, List, ◌∷◌, length, get_or, drop, refl, sym, ap, ◌∙◌, add-one, drop-cons}
use Rattle.std.specs.List.{list_all}

split : {A : Type 0} (p : A → Bool) (xs : List A) (i : ℕ) (x : A) → i < length xs → x ≡ get_or xs i x → list_all p (drop i xs) ≡ (p x && list_all p (drop (i + 1) xs))
split {A} p xs i x h e =
    let d : drop i xs ≡ get_or xs i x ∷ drop (i + 1) xs = rw (add-one, drop-cons xs i x) refl in
    ap (λ (ys : List A). list_all p ys) d ∙ ap (λ (y : A). p y && list_all p (drop (i + 1) xs)) (sym e)

pub all_step : {A : Type 0} (p : A → Bool) (xs : List A) (i : ℕ) (x : A) → i < length xs → x ≡ get_or xs i x → p x ≡ true → list_all p (drop (i + 1) xs) ≡ list_all p (drop i xs)
all_step {A} p xs i x h e t = sym (split p xs i x h e ∙ ap (λ (b : Bool). b && list_all p (drop (i + 1) xs)) t)

pub all_stop : {A : Type 0} (p : A → Bool) (xs : List A) (i : ℕ) (x : A) → i < length xs → x ≡ get_or xs i x → p x ≡ false → list_all p (drop i xs) ≡ false
all_stop {A} p xs i x h e t = split p xs i x h e ∙ ap (λ (b : Bool). b && list_all p (drop (i + 1) xs)) t
