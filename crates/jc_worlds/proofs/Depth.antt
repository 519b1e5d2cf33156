-- Loading to a depth: as many levels as the world has classes are enough.
use Rattle.std.proofs.Common.{◌≡◌, ℕ, zero, suc, ◌≤◌, ◌+◌, Bool, true, false, List, [], ◌∷◌, length, refl, sym, ◌∙◌, ap, subst, Option, Some, None, arith}
use mathlib.Core.Path.{fun_ext}
use Rattle.jc_facts.specs.declared.class_facts.ClassFacts.{ClassFacts}
use Rattle.jc_facts.specs.declared.link_error.LinkError.{LinkError}
use Rattle.jc_facts.specs.declared.link_error.LinkError.TheVariants.{ClassCircularityError}
use Rattle.jc_facts.specs.Names.{Bytes}
use Rattle.jc_facts.specs.world.World.{World, find_class, size, classes}
use Rattle.jc_facts.specs.world.Search.{supers}
use Rattle.jc_facts.specs.Options.{or_else, first_some}
use Rattle.jc_facts.specs.world.Loading.{fault_of_itself, load_step, fault_at, load_fault}
use Rattle.jc_lemmas.proofs.Listed.{EachOf}
use Rattle.jc_worlds.proofs.Settles.{IsSearch, settles}
use Rattle.jc_facts.proofs.World.{names, EachOf-find, size-names}
use Rattle.jc_worlds.proofs.Descent.{descend-absent, descend-none_left, descend-found}

-- the levels did not run out
abbrev pub is_done : Option LinkError → Bool
is_done None = true
is_done (Some ClassCircularityError) = false
is_done (Some e) = true

undone : (o : Option LinkError) → is_done o ≡ false → o ≡ Some ClassCircularityError
undone None h = cc
undone (Some ClassCircularityError) h = refl
undone (Some e) h = cc

or_else-keeps : (o o' p p' : Option LinkError) → (is_done o ≡ true → o' ≡ o) → (is_done p ≡ true → p' ≡ p) → is_done (or_else o p) ≡ true → or_else o' p' ≡ or_else o p
unfolding or_else
or_else-keeps None o' p p' h k d = rw (h refl) (k d)
or_else-keeps (Some e) o' p p' h k d = rw (h d) refl

first_some-keeps : (f g : Bytes → Option LinkError) → ((a : Bytes) → is_done (f a) ≡ true → g a ≡ f a) → (xs : List Bytes) → is_done (first_some f xs) ≡ true → first_some g xs ≡ first_some f xs
unfolding first_some
first_some-keeps f g h [] d = refl
first_some-keeps f g h (x ∷ xs) d = or_else-keeps (f x) (g x) (first_some f xs) (first_some g xs) (h x) (first_some-keeps f g h xs) d

-- a level above two that agree where the first is done
load_step-keeps : (W : World) (f g : Bytes → Option LinkError) → ((a : Bytes) → is_done (f a) ≡ true → g a ≡ f a) → (c : ClassFacts) → is_done (load_step W f c) ≡ true → load_step W g c ≡ load_step W f c
unfolding load_step
load_step-keeps W f g h c q = or_else-keeps (first_some f (supers c)) (first_some g (supers c)) (fault_of_itself W c) (fault_of_itself W c) (first_some-keeps f g h (supers c)) (λ _. refl) q

module _ (W : World) where
  -- a fault that is found before the levels run out stays
  pub fault_at-keeps : (n : ℕ) (x : Bytes) → is_done (fault_at W n x) ≡ true → fault_at W (suc n) x ≡ fault_at W n x
  fault_at-keeps zero x d = go (find_class W x) refl
    where
      go : (o : Option ClassFacts) → find_class W x ≡ o → fault_at W 1 x ≡ fault_at W zero x
      go None e = descend-absent W _ _ (load_step W) 1 x e ∙ sym (descend-absent W _ _ (load_step W) zero x e)
      go (Some c) e = absurd (let p : fault_at W zero x ≡ Some ClassCircularityError = descend-none_left W _ _ (load_step W) x c e in let q : is_done (Some ClassCircularityError) ≡ true = rw p at d in cc)
  fault_at-keeps (suc n) x d = go (find_class W x) refl (fault_at-keeps n)
    where
      go : (o : Option ClassFacts) → find_class W x ≡ o → ((y : Bytes) → is_done (fault_at W n y) ≡ true → fault_at W (suc n) y ≡ fault_at W n y) → fault_at W (suc (suc n)) x ≡ fault_at W (suc n) x
      go None e r = descend-absent W _ _ (load_step W) (suc (suc n)) x e ∙ sym (descend-absent W _ _ (load_step W) (suc n) x e)
      go (Some c) e r =
          let p : fault_at W (suc n) x ≡ load_step W (fault_at W n) c = descend-found W _ _ (load_step W) n x c e in
          let q : fault_at W (suc (suc n)) x ≡ load_step W (fault_at W (suc n)) c = descend-found W _ _ (load_step W) (suc n) x c e in
          q ∙ load_step-keeps W (fault_at W n) (fault_at W (suc n)) r c (rw p at d) ∙ sym p

  pub fault_at-waits : (n : ℕ) (x : Bytes) → is_done (fault_at W n x) ≡ false → is_done (fault_at W (suc n) x) ≡ false → fault_at W (suc n) x ≡ fault_at W n x
  fault_at-waits n x h k = undone (fault_at W (suc n) x) k ∙ sym (undone (fault_at W n x) h)

  fault_at-covers : (n : ℕ) → EachOf (λ a. fault_at W (suc n) a ≡ fault_at W n a) (names (classes W)) → (a : Bytes) → fault_at W (suc n) a ≡ fault_at W n a
  fault_at-covers n h a = go (find_class W a) refl
    where
      go : (o : Option ClassFacts) → find_class W a ≡ o → fault_at W (suc n) a ≡ fault_at W n a
      go None e = descend-absent W _ _ (load_step W) (suc n) a e ∙ sym (descend-absent W _ _ (load_step W) n a e)
      go (Some c) e = EachOf-find (λ b. fault_at W (suc n) b ≡ fault_at W n b) W a c e h

  fault_at-next : (n : ℕ) → ((a : Bytes) → fault_at W (suc n) a ≡ fault_at W n a) → (a : Bytes) → fault_at W (suc (suc n)) a ≡ fault_at W (suc n) a
  fault_at-next n h a = go (find_class W a) refl
    where
      go : (o : Option ClassFacts) → find_class W a ≡ o → fault_at W (suc (suc n)) a ≡ fault_at W (suc n) a
      go None e = descend-absent W _ _ (load_step W) (suc (suc n)) a e ∙ sym (descend-absent W _ _ (load_step W) (suc n) a e)
      go (Some c) e = descend-found W _ _ (load_step W) (suc n) a c e ∙ ap (λ f. load_step W f c) (fun_ext h) ∙ sym (descend-found W _ _ (load_step W) n a c e)

  loading : IsSearch (names (classes W)) (fault_at W) is_done
  loading = record { keeps = fault_at-keeps; waits = fault_at-waits; covers = fault_at-covers; next = fault_at-next }

  -- at any depth from the number of classes on the fault is the load fault
  pub fault_at-deep : (n : ℕ) → size W ≤ n → (x : Bytes) → fault_at W n x ≡ load_fault W x
  unfolding load_fault
  fault_at-deep n h x =
      let e : length (names (classes W)) ≡ size W = size-names W in
      subst (λ k. fault_at W n x ≡ fault_at W k x) e (settles (names (classes W)) (fault_at W) is_done loading n (omega arith) x)

  -- a fault other than a cycle is found at any larger depth
  pub fault_at-from : (n : ℕ) (x : Bytes) → is_done (fault_at W n x) ≡ true → (k m : ℕ) → m ≡ k + n → fault_at W m x ≡ fault_at W n x
  fault_at-from n x d zero m e = let q : m ≡ n = omega arith in ap (λ j. fault_at W j x) q
  fault_at-from n x d (suc k) m e =
      let q : m ≡ suc (k + n) = omega arith in
      let r : fault_at W (k + n) x ≡ fault_at W n x = fault_at-from n x d k (k + n) refl in
      ap (λ j. fault_at W j x) q ∙ fault_at-keeps (k + n) x (rw r d) ∙ r
