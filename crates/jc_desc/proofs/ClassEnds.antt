-- The end of a class name, found byte by byte.
use Rattle.std.proofs.Common.{◌≡◌, ◌+◌, ◌≤◌, ◌<◌, get_or, ℕ, suc, Bool, true, false, not, ◌&&◌, cond, nat_eq, nat_lt, List, [], ◌∷◌, length, drop, take, Option, Some, None, refl, sym, ap, ◌∙◌, arith}
use Rattle.std.proofs.Math.Dec.{leb-suc-suc}
use Rattle.std.proofs.lemmas.Bool.{lt-ltb}
use Rattle.std.proofs.lemmas.List.{drop_more, drop_all}
use Rattle.std.specs.Option.{option_map}
use Rattle.std.specs.List.{position_or_len}
use Rattle.jc_desc.specs.Names.{is_rest_of_name, is_byte_of_name}
use Rattle.jc_desc.specs.steps.ClassEnd.{class_end}

abbrev is_end : ℕ → Bool
is_end b = nat_eq b 59

-- the end of what may follow, where a part has to begin here, or where one is under way
abbrev pub end_from : Bool → List ℕ → Option ℕ
end_from begins [] = None
end_from begins (b ∷ bs) = cond (nat_eq b 59) (cond begins None (Some 0)) (option_map (λ n. 1 + n) (cond (nat_eq b 47) (cond begins None (end_from true bs)) (cond (is_byte_of_name b) (end_from false bs) None)))

-- the same of the whole, of which the ; stands at n
abbrev end_at : ℕ → Bool → List ℕ → Option ℕ
end_at n begins bytes = cond (nat_lt n (length bytes) && is_rest_of_name begins (take n bytes)) (Some n) None

-- what stands behind the byte b, with what is told of it where a part begins, and where one is under way
abbrev behind : Bool → ℕ → Option ℕ → Option ℕ → Option ℕ
behind begins b x y = option_map (λ k. 1 + k) (cond (nat_eq b 47) (cond begins None x) (cond (is_byte_of_name b) y None))

step : (n : ℕ) (begins there slash letter one other : Bool) → option_map (λ k. 1 + k) (cond slash (cond begins None (cond (there && one) (Some n) None)) (cond letter (cond (there && other) (Some n) None) None))
    ≡ cond (there && cond slash (not begins && one) (letter && other)) (Some (1 + n)) None
step n begins false true letter one other = by_begins begins where
  by_begins : (t : Bool) → option_map (λ k. 1 + k) (cond {A = Option ℕ} t None None) ≡ None
  by_begins true = refl
  by_begins false = refl
step n begins false false true one other = refl
step n begins false false false one other = refl
step n true true true letter one other = refl
step n false true true letter true other = refl
step n false true true letter false other = refl
step n begins true false true one true = refl
step n begins true false true one false = refl
step n begins true false false one other = refl

one_more : (n : ℕ) (begins : Bool) (b : ℕ) (bs : List ℕ) → behind begins b (end_at n true bs) (end_at n false bs) ≡ end_at (1 + n) begins (b ∷ bs)
one_more n begins b bs =
    let e : 1 + n ≡ suc n = omega arith in
    let s = step n begins (nat_lt n (length bs)) (nat_eq b 47) (is_byte_of_name b) (is_rest_of_name true (take n bs)) (is_rest_of_name false (take n bs)) in
    rw e (simp leb-suc-suc (s ∙ rw e refl))

ends : (begins : Bool) (bytes : List ℕ) → end_from begins bytes ≡ end_at (position_or_len is_end bytes) begins bytes
ends begins [] = refl
ends begins (b ∷ bs) = go (nat_eq b 59) refl (ends true bs) (ends false bs) where
  at_end : (t : Bool) → cond {A = Option ℕ} t None (Some 0) ≡ cond (not t) (Some 0) None
  at_end true = refl
  at_end false = refl

  go : (t : Bool) → nat_eq b 59 ≡ t → end_from true bs ≡ end_at (position_or_len is_end bs) true bs → end_from false bs ≡ end_at (position_or_len is_end bs) false bs
      → end_from begins (b ∷ bs) ≡ end_at (position_or_len is_end (b ∷ bs)) begins (b ∷ bs)
  go true e begun under = let some : nat_lt 0 (length (b ∷ bs)) ≡ true = lt-ltb _ _ (omega arith) in rw (e, some) (at_end begins)
  go false e begun under =
      ap (λ (t : Bool). cond t (cond begins None (Some 0)) (behind begins b (end_from true bs) (end_from false bs))) e
      ∙ ap (λ (x : Option ℕ). behind begins b x (end_from false bs)) begun
      ∙ ap (λ (y : Option ℕ). behind begins b (end_at (position_or_len is_end bs) true bs) y) under
      ∙ one_more (position_or_len is_end bs) begins b bs
      ∙ ap (λ (n : ℕ). end_at n begins (b ∷ bs)) (sym (ap (λ (t : Bool). cond (not t) (1 + position_or_len is_end bs) 0) e))

-- none where there is no byte left
pub none_ends : (begins : Bool) (bytes : List ℕ) (i : ℕ) → length bytes ≤ i → option_map (λ n. i + n) (end_from begins (drop i bytes)) ≡ end_from true bytes → None ≡ class_end bytes
none_ends begins bytes i past e = ap (λ (rest : List ℕ). option_map (λ n. i + n) (end_from begins rest)) (sym (drop_all i bytes past)) ∙ e ∙ ends true bytes

-- what is found at a byte that tells it
pub found_at : (begins : Bool) (bytes : List ℕ) (i b : ℕ) (found : Option ℕ) → i < length bytes → get_or bytes i 0 ≡ b → found ≡ option_map (λ n. i + n) (end_from begins (b ∷ drop (i + 1) bytes))
    → option_map (λ n. i + n) (end_from begins (drop i bytes)) ≡ end_from true bytes → found ≡ class_end bytes
found_at begins bytes i b found within is tells e =
    tells ∙ ap (λ (rest : List ℕ). option_map (λ n. i + n) (end_from begins rest)) (sym (drop_more bytes i 0 within ∙ ap (λ (k : ℕ). k ∷ drop (i + 1) bytes) is)) ∙ e ∙ ends true bytes
