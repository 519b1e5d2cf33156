-- The numbers of keys on both sides, key by key.
use Rattle.std.proofs.Common.{◌≡◌, ◌<◌, ◌+◌, ◌⊎◌, inl, inr, ℕ, zero, suc, List, [], ◌∷◌, ◌++◌, length, refl, sym, ◌∙◌, ap, subst, Some, None, Option, option_map, is_some, true, get_or, arith, slice_get}
use Rattle.std.proofs.lemmas.List.{length-append}
use Rattle.std.proofs.lemmas.Option.{slice_get-get_or}
use Rattle.jc_facts.specs.declared.key.Key.{Key}
use Rattle.jc_sides.specs.Numbering.{AreNumbers, AreOf}
use Rattle.jc_sides.specs.SidesOf.{SidesOf}
use Rattle.jc_sides.specs.declared.key_numbers.KeyNumbers.{KeyNumbers}

-- what stands in a longer list stands in the front, or is the last
last_or : {A : Type 0} (xs : List A) (x y : A) (n : ℕ) → slice_get (xs ++ x ∷ []) n ≡ Some y → (slice_get xs n ≡ Some y) ⊎ ((n ≡ length xs) × (y ≡ x))
last_or [] x y zero e = inr (refl, let c : Some x ≡ Some y = e in cc)
last_or [] x y (suc n) e = absurd (let c : None ≡ Some y = e in cc)
last_or (z ∷ zs) x y zero e = inl e
last_or (z ∷ zs) x y (suc n) e = go (last_or zs x y n e)
  where
    go : (slice_get zs n ≡ Some y) ⊎ ((n ≡ length zs) × (y ≡ x)) → (slice_get zs n ≡ Some y) ⊎ ((suc n ≡ suc (length zs)) × (y ≡ x))
    go (inl h) = inl h
    go (inr h) = inr (ap suc h.0, h.1)

-- past one of two lists as long as each other is past the other
past : {A B : Type 0} (xs : List A) (ys : List B) (n : ℕ) → length xs ≡ length ys → slice_get xs n ≡ None → slice_get ys n ≡ None
past [] [] n l e = refl
past [] (y ∷ ys) n l e = absurd (omega (arith, l))
past (x ∷ xs) [] n l e = refl
past (x ∷ xs) (y ∷ ys) zero l e = absurd (let c : Some x ≡ None = e in cc)
past (x ∷ xs) (y ∷ ys) (suc n) l e = past xs ys n (omega (arith, l)) e

-- a place within the list has something; o is what is lent of it
pub is_there : {A B : Type 0} (xs : List A) (n : ℕ) (o : Option B) (view : B → A) → n < length xs → option_map view o ≡ slice_get xs n → is_some o ≡ true
is_there xs n (Some b) view l e = refl
is_there (x ∷ xs) n None view l e = absurd (let c : None ≡ Some (get_or (x ∷ xs) n x) = e ∙ slice_get-get_or (x ∷ xs) n x l in cc)
is_there [] n None view l e = absurd (omega (arith, l))

module _ (s : SidesOf) (keys : List Key) where
  -- those of the first n keys
  pub record AreFirst (n : ℕ) (ps : List KeyNumbers) : Type 0 where
    pub count : length ps ≡ n
    pub right : (i : ℕ) (k : Key) (p : KeyNumbers) → slice_get keys i ≡ Some k → slice_get ps i ≡ Some p → AreNumbers s k p

  pub starts : (ps : List KeyNumbers) → ps ≡ [] → AreFirst 0 ps
  starts ps e = record {
    count = ap (λ (qs : List KeyNumbers). length qs) e;
    right = λ i k p h g. absurd (let c : None ≡ Some p = sym (ap (λ (qs : List KeyNumbers). slice_get qs i) e) ∙ g in cc);
  }

  pub one_more : (n : ℕ) (k : Key) (p : KeyNumbers) (ps qs : List KeyNumbers) → slice_get keys n ≡ Some k → AreNumbers s k p → qs ≡ ps ++ p ∷ [] → AreFirst n ps → AreFirst (n + 1) qs
  one_more n k p ps qs e a is h = record {
    count = ap (λ (rs : List KeyNumbers). length rs) is ∙ length-append ps (p ∷ []) ∙ ap (λ (m : ℕ). m + 1) h.count;
    right = λ i j q f g. go i j q f (last_or ps p q i (sym (ap (λ (rs : List KeyNumbers). slice_get rs i) is) ∙ g));
  }
    where
      go : (i : ℕ) (j : Key) (q : KeyNumbers) → slice_get keys i ≡ Some j → (slice_get ps i ≡ Some q) ⊎ ((i ≡ length ps) × (q ≡ p)) → AreNumbers s j q
      go i j q f (inl g) = h.right i j q f g
      go i j q f (inr g) =
          let c : Some k ≡ Some j = sym e ∙ ap (slice_get keys) (sym (g.0 ∙ h.count)) ∙ f in
          let t : k ≡ j = cc in
          subst (λ (l : Key). AreNumbers s l q) t (subst (λ (r : KeyNumbers). AreNumbers s k r) (sym g.1) a)

  pub all_of : (n : ℕ) (ps : List KeyNumbers) → n ≡ length keys → AreFirst n ps → AreOf s keys ps
  all_of n ps e h = record { count = h.count ∙ e; right = h.right }

  pub is_past : (ps : List KeyNumbers) (n : ℕ) → AreOf s keys ps → slice_get ps n ≡ None → slice_get keys n ≡ None
  is_past ps n h e = past ps keys n h.count e
