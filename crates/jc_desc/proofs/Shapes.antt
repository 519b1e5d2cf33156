-- The test of modified UTF-8 holds exactly where the bytes are a row of shapes.
use Rattle.std.proofs.Common.{◌≡◌, ℕ, suc, zero, ◌-◌, ◌<◌, true, false, cond, not, ◌&&◌, nat_eq, nat_lt, List, [], ◌∷◌, ◌++◌, length, refl, sym, ap, subst, ◌∙◌, arith, ◌⊎◌, inl, inr, IsTrue}
use Rattle.std.proofs.lemmas.Bool.Decides.{nat_tests}
use Rattle.jc_desc.specs.Utf8.{is_follower_byte, follower_count, is_first_byte, is_rest_of_text, is_modified_utf8, is_shape, AreShapes, joined, IsText}
use Rattle.jc_desc.proofs.Grammar.{chosen}
use Rattle.std.proofs.lemmas.Bool.{and_parts}

-- a row of shapes with one more in front
more : (shape rest : List ℕ) → is_shape shape ≡ true → IsText rest → IsText (shape ++ rest)
more shape rest h t = (shape ∷ t.0, (let s : IsTrue (is_shape shape) = grind (arith, h) in s, t.1), ap (λ (bs : List ℕ). shape ++ bs) t.2)

one_byte : (a : ℕ) → is_first_byte a ≡ true → follower_count a ≡ 0 → is_shape (a ∷ []) ≡ true
one_byte a f n = grind (arith, nat_tests)

two_bytes : (a b : ℕ) → is_first_byte a ≡ true → follower_count a ≡ 1 → is_follower_byte b ≡ true → is_shape (a ∷ b ∷ []) ≡ true
two_bytes a b f n g = rw g (front a f n) where
  front : (a : ℕ) → is_first_byte a ≡ true → follower_count a ≡ 1 → (not (nat_lt a 192) && nat_lt a 224 && true) ≡ true
  front a f n = grind (arith, nat_tests)

three_bytes : (a b c : ℕ) → is_first_byte a ≡ true → follower_count a ≡ 2 → is_follower_byte b ≡ true → is_follower_byte c ≡ true → is_shape (a ∷ b ∷ c ∷ []) ≡ true
three_bytes a b c f n g k = rw (g, k) (front a f n) where
  front : (a : ℕ) → is_first_byte a ≡ true → follower_count a ≡ 2 → (not (nat_lt a 224) && nat_lt a 240 && true && true) ≡ true
  front a f n = grind (arith, nat_tests)

-- how many bytes follow a first one
few : (a : ℕ) → (follower_count a ≡ 0) ⊎ ((follower_count a ≡ 1) ⊎ (follower_count a ≡ 2))
few a = elim (chosen (nat_lt a 128) 0 (cond (nat_lt a 224) 1 2) (follower_count a) refl) [
  | inl x ↦ inl (sym x.1)
  | inr x ↦ elim (chosen (nat_lt a 224) 1 2 (follower_count a) x.1) [ inl y ↦ inr (inl (sym y.1)) | inr y ↦ inr (inr (sym y.1)) ]
]

-- one more byte of a shape that is due
due_step : (due n : ℕ) (bytes : List ℕ) → nat_eq due 0 ≡ false → due - 1 ≡ n → is_rest_of_text due bytes ≡ true → (b : ℕ) × (bs : List ℕ) × (bytes ≡ b ∷ bs) × (is_follower_byte b ≡ true) × (is_rest_of_text n bs ≡ true)
due_step due n [] some e h = absurd (let q : false ≡ true = sym some ∙ h in cc)
due_step due n (b ∷ bs) some e h =
    let k : (is_follower_byte b && is_rest_of_text (due - 1) bs) ≡ true = rw some at h in
    let t = and_parts (is_follower_byte b) (is_rest_of_text (due - 1) bs) k in
    (b, bs, refl, t.0, subst (λ (k : ℕ). is_rest_of_text k bs ≡ true) e t.1)

-- of fewer bytes than n
text_is_below : (n : ℕ) (bytes : List ℕ) → length bytes < n → is_modified_utf8 bytes ≡ true → IsText bytes
text_is_below zero bytes l h = absurd (omega arith)
text_is_below (suc n) [] l h = ([], tt, refl)
text_is_below (suc n) (a ∷ cs) l h =
    let t = and_parts (is_first_byte a) (is_rest_of_text (follower_count a) cs) h in
    let short : length cs < n = (let q : suc (length cs) < suc n = l in omega arith) in
    elim (few a) [
      | inl k ↦ more (a ∷ []) cs (one_byte a t.0 k) (text_is_below n cs short (subst (λ (d : ℕ). is_rest_of_text d cs ≡ true) k t.1))
      | inr o ↦ elim o [
        | inl k ↦
            let x = due_step 1 0 cs refl refl (subst (λ (d : ℕ). is_rest_of_text d cs ≡ true) k t.1) in
            let less : length x.1 < n = (let q : length cs ≡ suc (length x.1) = ap (λ (bs : List ℕ). length bs) x.2 in omega arith) in
            subst (λ (bs : List ℕ). IsText (a ∷ bs)) (sym x.2) (more (a ∷ x.0 ∷ []) x.1 (two_bytes a x.0 t.0 k x.3) (text_is_below n x.1 less x.4))
        | inr k ↦
            let x = due_step 2 1 cs refl refl (subst (λ (d : ℕ). is_rest_of_text d cs ≡ true) k t.1) in
            let y = due_step 1 0 x.1 refl refl x.4 in
            let less : length y.1 < n = (let q : length cs ≡ suc (length x.1) = ap (λ (bs : List ℕ). length bs) x.2 in let r : length x.1 ≡ suc (length y.1) = ap (λ (bs : List ℕ). length bs) y.2 in omega arith) in
            subst (λ (bs : List ℕ). IsText (a ∷ bs)) (sym (x.2 ∙ ap (λ (bs : List ℕ). x.0 ∷ bs) y.2)) (more (a ∷ x.0 ∷ y.0 ∷ []) y.1 (three_bytes a x.0 y.0 t.0 k x.3 y.3) (text_is_below n y.1 less y.4))
      ]
    ]

pub text_is : (bytes : List ℕ) → is_modified_utf8 bytes ≡ true → IsText bytes
text_is bytes h = text_is_below (suc (length bytes)) bytes (omega arith) h

-- a shape in front of a text
shape_again : (shape rest : List ℕ) → is_shape shape ≡ true → is_modified_utf8 rest ≡ true → is_modified_utf8 (shape ++ rest) ≡ true
shape_again [] rest h t = absurd cc
shape_again (a ∷ []) rest h t = one a h where
  one : (a : ℕ) → is_shape (a ∷ []) ≡ true → is_modified_utf8 (a ∷ rest) ≡ true
  one a h =
      let f : is_first_byte a ≡ true = grind (arith, nat_tests) in
      let n : follower_count a ≡ 0 = grind (arith, nat_tests) in
      rw (f, n) t
shape_again (a ∷ b ∷ []) rest h t =
    let p = and_parts (not (nat_lt a 192) && nat_lt a 224) (is_follower_byte b) h in
    let f : is_first_byte a ≡ true = first_of_two a p.0 in
    let n : follower_count a ≡ 1 = followers_of_two a p.0 in
    rw (f, n, p.1) t where
      first_of_two : (a : ℕ) → (not (nat_lt a 192) && nat_lt a 224) ≡ true → is_first_byte a ≡ true
      first_of_two a h = grind (arith, nat_tests)

      followers_of_two : (a : ℕ) → (not (nat_lt a 192) && nat_lt a 224) ≡ true → follower_count a ≡ 1
      followers_of_two a h = grind (arith, nat_tests)
shape_again (a ∷ b ∷ c ∷ []) rest h t =
    let q = and_parts (not (nat_lt a 224) && nat_lt a 240 && is_follower_byte b) (is_follower_byte c) h in
    let p = and_parts (not (nat_lt a 224) && nat_lt a 240) (is_follower_byte b) q.0 in
    let f : is_first_byte a ≡ true = first_of_three a p.0 in
    let n : follower_count a ≡ 2 = followers_of_three a p.0 in
    rw (f, n, p.1, q.1) t where
      first_of_three : (a : ℕ) → (not (nat_lt a 224) && nat_lt a 240) ≡ true → is_first_byte a ≡ true
      first_of_three a h = grind (arith, nat_tests)

      followers_of_three : (a : ℕ) → (not (nat_lt a 224) && nat_lt a 240) ≡ true → follower_count a ≡ 2
      followers_of_three a h = grind (arith, nat_tests)
shape_again (a ∷ b ∷ c ∷ d ∷ ds) rest h t = absurd cc

shapes_again : (shapes : List (List ℕ)) → AreShapes shapes → is_modified_utf8 (joined shapes) ≡ true
shapes_again [] h = refl
shapes_again (s ∷ ss) h = shape_again s (joined ss) (let t : is_shape s ≡ true = grind (arith, h.0) in t) (shapes_again ss h.1)

pub text_again : (bytes : List ℕ) → IsText bytes → is_modified_utf8 bytes ≡ true
text_again bytes h = ap (λ (bs : List ℕ). is_modified_utf8 bs) h.2 ∙ shapes_again h.0 h.1
