-- Above a class that loads there is no cycle: its searches end before the levels do.
use Rattle.std.proofs.Common.{◌≡◌, ℕ, zero, suc, ◌+◌, true, List, [], ◌∷◌, refl, sym, ◌∙◌, ap, Option, Some, None, arith}
use Rattle.jc_facts.specs.declared.class_facts.ClassFacts.{ClassFacts}
use Rattle.jc_facts.specs.declared.link_error.LinkError.TheVariants.{NoClassDefFoundError, ClassCircularityError}
use Rattle.jc_facts.specs.Names.{Bytes}
use Rattle.jc_facts.specs.world.World.{World, find_class, size}
use Rattle.jc_facts.specs.world.Search.{descend, supers}
use Rattle.jc_facts.specs.Options.{or_else, first_some}
use Rattle.jc_facts.specs.world.Loading.{fault_of_itself, load_step, fault_at, load_fault}
use Rattle.jc_lemmas.proofs.Listed.{EachOf, EachOf-map}
use Rattle.jc_worlds.proofs.Descent.{IsLocal, descend-absent, descend-none_left, descend-found}
use Rattle.jc_worlds.proofs.Depth.{is_done, fault_at-from, fault_at-deep}
use Rattle.jc_facts.proofs.Options.{or_else-both, first_some-none, or_else-none}

pub all_none : {A : Type 0} (f : Bytes → Option A) (xs : List Bytes) → EachOf (λ s. f s ≡ None) xs → first_some f xs ≡ None
unfolding first_some
all_none f [] h = refl
all_none f (x ∷ xs) h = or_else-both (f x) (first_some f xs) h.0 (all_none f xs h.1)

module _ (W : World) where
  -- the class is there
  pub loaded-found : (n : ℕ) (x : Bytes) → fault_at W n x ≡ None → (c : ClassFacts) × (find_class W x ≡ Some c)
  loaded-found n x h = go (find_class W x) refl
    where
      go : (o : Option ClassFacts) → find_class W x ≡ o → (c : ClassFacts) × (o ≡ Some c)
      go None e = absurd (let p : fault_at W n x ≡ Some NoClassDefFoundError = descend-absent W _ _ (load_step W) n x e in cc)
      go (Some c) e = (c, refl)

  -- it takes a level
  pub loaded-level : (n : ℕ) (x : Bytes) → fault_at W n x ≡ None → (m : ℕ) × (n ≡ suc m)
  loaded-level zero x h = absurd (let c = loaded-found zero x h in let p : fault_at W zero x ≡ Some ClassCircularityError = descend-none_left W _ _ (load_step W) x c.0 c.1 in cc)
  loaded-level (suc m) x h = (m, refl)

  -- all that it names loads with a level less, and nothing refuses the class itself
  pub loaded-parts : (n : ℕ) (x : Bytes) (c : ClassFacts) → find_class W x ≡ Some c → fault_at W (suc n) x ≡ None → EachOf (λ s. fault_at W n s ≡ None) (supers c) × (fault_of_itself W c ≡ None)
  unfolding load_step
  loaded-parts n x c e h =
      let p : fault_at W (suc n) x ≡ or_else (first_some (fault_at W n) (supers c)) (fault_of_itself W c) = descend-found W _ _ (load_step W) n x c e in
      let q = or_else-none (first_some (fault_at W n) (supers c)) (fault_of_itself W c) (sym p ∙ h) in
      (first_some-none (fault_at W n) (supers c) q.0, q.1)

  -- what loads at some depth loads
  pub loads_from : (n : ℕ) (x : Bytes) → fault_at W n x ≡ None → load_fault W x ≡ None
  unfolding load_fault
  loads_from n x h =
      let d : is_done (fault_at W n x) ≡ true = rw h refl in
      let a : fault_at W (size W + n) x ≡ None = fault_at-from W n x d (size W) (size W + n) refl ∙ h in
      sym (fault_at-deep W (size W + n) (omega arith) x) ∙ a

  module _ {B : Type 0} (missing deep : B) (step : (Bytes → B) → ClassFacts → B) (local : IsLocal step) where
    -- a search from a class that loads is over when it has loaded
    pub stable : (n : ℕ) (x : Bytes) → fault_at W n x ≡ None → descend W missing deep step (suc n) x ≡ descend W missing deep step n x
    stable zero x h = absurd (let l = loaded-level zero x h in cc)
    stable (suc n) x h =
        let f = loaded-found (suc n) x h in
        let p = loaded-parts n x f.0 f.1 h in
        descend-found W missing deep step (suc n) x f.0 f.1
        ∙ local (descend W missing deep step (suc n)) (descend W missing deep step n) f.0 (EachOf-map (stable n) (supers f.0) p.0)
        ∙ sym (descend-found W missing deep step n x f.0 f.1)

    pub stable_from : (n : ℕ) (x : Bytes) → fault_at W n x ≡ None → (k m : ℕ) → m ≡ k + n → descend W missing deep step m x ≡ descend W missing deep step n x
    stable_from n x h zero m e = let q : m ≡ n = omega arith in ap (λ j. descend W missing deep step j x) q
    stable_from n x h (suc k) m e =
        let q : m ≡ suc (k + n) = omega arith in
        let d : is_done (fault_at W n x) ≡ true = rw h refl in
        ap (λ j. descend W missing deep step j x) q ∙ stable (k + n) x (fault_at-from W n x d k (k + n) refl ∙ h) ∙ stable_from n x h k (k + n) refl

    pub same_depths : (n m : ℕ) (x : Bytes) → fault_at W n x ≡ None → fault_at W m x ≡ None → descend W missing deep step n x ≡ descend W missing deep step m x
    same_depths n m x h k = sym (stable_from n x h m (n + m) (omega arith)) ∙ stable_from m x k n (n + m) refl

    -- for a class that loads the search is one step and the searches above
    pub unroll : (x : Bytes) (c : ClassFacts) → load_fault W x ≡ None → find_class W x ≡ Some c
        → descend W missing deep step (size W) x ≡ step (descend W missing deep step (size W)) c
    unfolding load_fault
    unroll x c h e =
        sym (stable (size W) x h) ∙ descend-found W missing deep step (size W) x c e

  -- the same for the load fault itself
  pub loads-parts : (x : Bytes) (c : ClassFacts) → find_class W x ≡ Some c → load_fault W x ≡ None → EachOf (λ s. load_fault W s ≡ None) (supers c) × (fault_of_itself W c ≡ None)
  unfolding load_fault
  loads-parts x c e h =
      let l = loaded-level (size W) x h in
      let g : fault_at W (suc l.0) x ≡ None = rw l.1 at h in
      let p = loaded-parts l.0 x c e g in
      (EachOf-map (loads_from l.0) (supers c) p.0, p.1)

  -- induction over the hierarchy above a class that loads
  pub loads-induction : (P : Bytes → Type 0) → ((x : Bytes) (c : ClassFacts) → find_class W x ≡ Some c → load_fault W x ≡ None → EachOf P (supers c) → P x) → (x : Bytes) → load_fault W x ≡ None → P x
  unfolding load_fault
  loads-induction P step x h = go (size W) x h
    where
      go : (n : ℕ) (y : Bytes) → fault_at W n y ≡ None → P y
      go zero y k = absurd (let l = loaded-level zero y k in cc)
      go (suc n) y k =
          let f = loaded-found (suc n) y k in
          let p = loaded-parts n y f.0 f.1 k in
          step y f.0 f.1 (loads_from (suc n) y k) (EachOf-map (go n) (supers f.0) p.0)

  pub loads-found : (x : Bytes) → load_fault W x ≡ None → (c : ClassFacts) × (find_class W x ≡ Some c)
  unfolding load_fault
  loads-found x h = loaded-found (size W) x h

  -- a class loads where all that it names does, and nothing refuses it
  pub loads_from_parts : (x : Bytes) (c : ClassFacts) → find_class W x ≡ Some c → EachOf (λ s. load_fault W s ≡ None) (supers c) → fault_of_itself W c ≡ None → load_fault W x ≡ None
  unfolding load_fault load_step
  loads_from_parts x c e h o =
      let p : fault_at W (suc (size W)) x ≡ or_else (first_some (fault_at W (size W)) (supers c)) (fault_of_itself W c) = descend-found W _ _ (load_step W) (size W) x c e in
      sym (fault_at-deep W (suc (size W)) (omega arith) x) ∙ p ∙ or_else-both _ _ (all_none (fault_at W (size W)) (supers c) h) o
