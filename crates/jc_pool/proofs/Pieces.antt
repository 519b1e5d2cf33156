-- A test of each item of a list, piece by piece.
use Rattle.std.proofs.Common.{◌≡◌, ℕ, ◌+◌, ◌-◌, length, Bool, true, false, ◌&&◌, List, take, drop, refl, sym, ◌∙◌, ap, arith}
use Rattle.std.specs.List.{list_all}
use Rattle.std.proofs.lemmas.Bool.{and_parts, and_from, and_left, and_right}
use Rattle.std.proofs.lemmas.List.{take_all, take-append-drop, length-drop}
use Rattle.std.proofs.lemmas.List.Folds.{list_all-append}
use Rattle.std.proofs.Math.Seq.{take-add}

on_left : (a b : Bool) → a ≡ true → b ≡ (a && b)
on_left true b h = refl
on_left false b h = absurd (let q : false ≡ true = h in cc)

of_parts : {A : Type 0} (p : A → Bool) (k : ℕ) (xs : List A) → list_all p xs ≡ (list_all p (take k xs) && list_all p (drop k xs))
of_parts p k xs = ap (list_all p) (sym (take-append-drop k xs)) ∙ list_all-append p (take k xs) (drop k xs)

of_front : {A : Type 0} (p : A → Bool) (k n : ℕ) (xs : List A) → list_all p (take (k + n) xs) ≡ (list_all p (take k xs) && list_all p (take n (drop k xs)))
of_front p k n xs = ap (list_all p) (take-add k n xs) ∙ list_all-append p (take k xs) (take n (drop k xs))

-- a piece more passes
pub piece_more : {A : Type 0} (p : A → Bool) (k n : ℕ) (xs : List A) → list_all p (take k xs) ≡ true → list_all p (take n (drop k xs)) ≡ true → list_all p (take (k + n) xs) ≡ true
piece_more p k n xs h g = of_front p k n xs ∙ and_from (list_all p (take k xs)) (list_all p (take n (drop k xs))) h g

-- a piece doesn't pass
pub piece_fails : {A : Type 0} (p : A → Bool) (k n : ℕ) (xs : List A) → list_all p (take n (drop k xs)) ≡ false → list_all p xs ≡ false
piece_fails p k n xs h =
    let behind : list_all p (drop k xs) ≡ false = of_parts p n (drop k xs) ∙ and_left (list_all p (take n (drop k xs))) (list_all p (drop n (drop k xs))) h in
    of_parts p k xs ∙ and_right (list_all p (take k xs)) (list_all p (drop k xs)) behind

-- the last piece tells, where it begins inside what has passed
pub last_piece : {A : Type 0} (p : A → Bool) (j m : ℕ) (xs : List A) → list_all p (take (j + m) xs) ≡ true → list_all p (take (length xs - j) (drop j xs)) ≡ list_all p xs
last_piece p j m xs h =
    let whole : take (length xs - j) (drop j xs) ≡ drop j xs = take_all (length xs - j) (drop j xs) (omega (arith, length-drop j xs)) in
    let front : list_all p (take j xs) ≡ true = (and_parts (list_all p (take j xs)) (list_all p (take m (drop j xs))) (sym (of_front p j m xs) ∙ h)).0 in
    ap (list_all p) whole ∙ on_left (list_all p (take j xs)) (list_all p (drop j xs)) front ∙ sym (of_parts p j xs)
