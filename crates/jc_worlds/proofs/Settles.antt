-- A search by levels changes no more once it has as many levels as there are places.
use Rattle.std.proofs.Common.{◌≡◌, ℕ, zero, suc, ◌+◌, ◌-◌, ◌≤◌, ◌<◌, Bool, true, false, cond, List, [], ◌∷◌, length, refl, sym, ◌∙◌, ap, subst, ◌⊎◌, inl, inr, arith}
use Rattle.jc_lemmas.proofs.Listed.{EachOf, EachOf-map}

-- how many are done
unfoldable pub count_done : {A : Type 0} → (A → Bool) → List A → ℕ
count_done d [] = 0
count_done d (x ∷ xs) = cond (d x) 1 0 + count_done d xs

pub count_done-length : {A : Type 0} (d : A → Bool) (xs : List A) → count_done d xs ≤ length xs
unfolding count_done
count_done-length d [] = omega arith
count_done-length d (x ∷ xs) = let h : count_done d xs ≤ length xs = count_done-length d xs in
    elim (d x) as (λ b. cond b 1 0 + count_done d xs ≤ suc (length xs)) [ true ↦ omega arith | false ↦ omega arith ]

-- what is done stays done
pub count_done-mono : {A : Type 0} (d e : A → Bool) → ((x : A) → d x ≡ true → e x ≡ true) → (xs : List A) → count_done d xs ≤ count_done e xs
unfolding count_done
count_done-mono d e h [] = omega arith
count_done-mono d e h (x ∷ xs) = go (d x) (e x) (h x) (count_done-mono d e h xs)
  where
    go : (a b : Bool) → (a ≡ true → b ≡ true) → count_done d xs ≤ count_done e xs → cond a 1 0 + count_done d xs ≤ cond b 1 0 + count_done e xs
    go true true k l = omega arith
    go true false k l = absurd (cc (k refl))
    go false true k l = omega arith
    go false false k l = omega arith

-- the same are done, or more
pub count_done-cases : {A : Type 0} (d e : A → Bool) → ((x : A) → d x ≡ true → e x ≡ true) → (xs : List A) → EachOf (λ x. e x ≡ d x) xs ⊎ (count_done d xs < count_done e xs)
unfolding count_done
count_done-cases d e h [] = inl tt
count_done-cases d e h (x ∷ xs) = go (d x) (e x) refl refl (h x) (count_done-cases d e h xs) (count_done-mono d e h xs)
  where
    go : (a b : Bool) → d x ≡ a → e x ≡ b → (a ≡ true → b ≡ true) → EachOf (λ y. e y ≡ d y) xs ⊎ (count_done d xs < count_done e xs) → count_done d xs ≤ count_done e xs
        → ((e x ≡ d x) × EachOf (λ y. e y ≡ d y) xs) ⊎ (cond (d x) 1 0 + count_done d xs < cond (e x) 1 0 + count_done e xs)
    go true true p q k (inl r) l = inl (q ∙ sym p, r)
    go true true p q k (inr r) l = inr (rw (p, q) (omega arith))
    go true false p q k r l = absurd (cc (k refl))
    go false true p q k r l = inr (rw (p, q) (omega arith))
    go false false p q k (inl r) l = inl (q ∙ sym p, r)
    go false false p q k (inr r) l = inr (rw (p, q) (omega arith))

-- if all are done, each is
pub all_done : {A : Type 0} (d : A → Bool) (xs : List A) → length xs ≤ count_done d xs → EachOf (λ x. d x ≡ true) xs
unfolding count_done
all_done d [] h = tt
all_done d (x ∷ xs) h = go (d x) refl h (count_done-length d xs) (all_done d xs)
  where
    go : (a : Bool) → d x ≡ a → suc (length xs) ≤ cond a 1 0 + count_done d xs → count_done d xs ≤ length xs → (length xs ≤ count_done d xs → EachOf (λ y. d y ≡ true) xs)
        → (d x ≡ true) × EachOf (λ y. d y ≡ true) xs
    go true p k l r = (p, r (omega arith))
    go false p k l r = absurd (omega arith)

-- F n a is what the search to n levels says of a
pub record IsSearch {A B : Type 0} (places : List A) (F : ℕ → A → B) (done : B → Bool) : Type 0 where
  pub keeps : (n : ℕ) (a : A) → done (F n a) ≡ true → F (suc n) a ≡ F n a
  pub waits : (n : ℕ) (a : A) → done (F n a) ≡ false → done (F (suc n) a) ≡ false → F (suc n) a ≡ F n a
  pub covers : (n : ℕ) → EachOf (λ a. F (suc n) a ≡ F n a) places → (a : A) → F (suc n) a ≡ F n a
  pub next : (n : ℕ) → ((a : A) → F (suc n) a ≡ F n a) → (a : A) → F (suc (suc n)) a ≡ F (suc n) a

module _ {A B : Type 0} (places : List A) (F : ℕ → A → B) (done : B → Bool) (s : IsSearch places F done) where
  done_at : ℕ → A → Bool
  done_at n a = done (F n a)

  stays : (n : ℕ) (a : A) → done_at n a ≡ true → done_at (suc n) a ≡ true
  unfolding done_at
  stays n a h = rw (s.keeps n a h) h

  alike : (n : ℕ) (a : A) → done_at (suc n) a ≡ done_at n a → F (suc n) a ≡ F n a
  unfolding done_at
  alike n a e = go (done (F n a)) refl
    where
      go : (b : Bool) → done (F n a) ≡ b → F (suc n) a ≡ F n a
      go true p = s.keeps n a p
      go false p = s.waits n a p (e ∙ p)

  claim : (n : ℕ) → ((a : A) → F (suc n) a ≡ F n a) ⊎ (n ≤ count_done (done_at n) places)
  claim zero = inr (omega arith)
  claim (suc n) = go (claim n)
    where
      go2 : n ≤ count_done (done_at n) places → EachOf (λ a. done_at (suc n) a ≡ done_at n a) places ⊎ (count_done (done_at n) places < count_done (done_at (suc n)) places)
          → ((a : A) → F (suc (suc n)) a ≡ F (suc n) a) ⊎ (suc n ≤ count_done (done_at (suc n)) places)
      go2 l (inl r) = inl (s.next n (s.covers n (EachOf-map (alike n) places r)))
      go2 l (inr r) = inr (omega arith)

      go : ((a : A) → F (suc n) a ≡ F n a) ⊎ (n ≤ count_done (done_at n) places) → ((a : A) → F (suc (suc n)) a ≡ F (suc n) a) ⊎ (suc n ≤ count_done (done_at (suc n)) places)
      go (inl h) = inl (s.next n h)
      go (inr l) = go2 l (count_done-cases (done_at n) (done_at (suc n)) (stays n) places)

  -- after as many levels as there are places, one more changes nothing
  settled : (a : A) → F (suc (length places)) a ≡ F (length places) a
  unfolding done_at
  settled = go (claim (length places))
    where
      go : ((a : A) → F (suc (length places)) a ≡ F (length places) a) ⊎ (length places ≤ count_done (done_at (length places)) places) → (a : A) → F (suc (length places)) a ≡ F (length places) a
      go (inl h) = h
      go (inr l) = s.covers (length places) (EachOf-map (s.keeps (length places)) places (all_done (done_at (length places)) places l))

  -- and no further levels do
  later : (n : ℕ) → ((a : A) → F (suc n) a ≡ F n a) → (k m : ℕ) → m ≡ k + n → ((a : A) → F (suc m) a ≡ F m a) × ((a : A) → F m a ≡ F n a)
  later n h zero m e = let q : m ≡ n = omega arith in (subst (λ j. (a : A) → F (suc j) a ≡ F j a) (sym q) h, λ a. ap (λ j. F j a) q)
  later n h (suc k) m e =
      let q : m ≡ suc (k + n) = omega arith in
      let r = later n h k (k + n) refl in
      (subst (λ j. (a : A) → F (suc j) a ≡ F j a) (sym q) (s.next (k + n) r.0), λ a. ap (λ j. F j a) q ∙ r.0 a ∙ r.1 a)

  pub settles : (n : ℕ) → length places ≤ n → (a : A) → F n a ≡ F (length places) a
  settles n h a = (later (length places) settled (n - length places) n (omega arith)).1 a
