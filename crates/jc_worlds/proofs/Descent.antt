-- What a search by levels gives at a class, from its first level.
use Rattle.std.proofs.Common.{◌≡◌, ℕ, zero, suc, refl, Some, None}
use Rattle.jc_facts.specs.declared.class_facts.ClassFacts.{ClassFacts}
use Rattle.jc_facts.specs.Names.{Bytes}
use Rattle.jc_facts.specs.world.World.{World, find_class}
use Rattle.jc_facts.specs.world.Search.{descend, supers}
use Rattle.jc_lemmas.proofs.Listed.{EachOf}

-- the step reads the search at the names above the class alone
abbrev pub IsLocal : {B : Type 0} → ((Bytes → B) → ClassFacts → B) → Type 0
IsLocal {B} step = (f g : Bytes → B) (c : ClassFacts) → EachOf (λ s. f s ≡ g s) (supers c) → step f c ≡ step g c

module _ {B : Type 0} (W : World) (missing deep : B) (step : (Bytes → B) → ClassFacts → B) where
  pub descend-absent : (n : ℕ) (x : Bytes) → find_class W x ≡ None → descend W missing deep step n x ≡ missing
  unfolding descend
  descend-absent zero x e = rw (e, descend) refl
  descend-absent (suc n) x e = rw (e, descend) refl

  pub descend-none_left : (x : Bytes) (c : ClassFacts) → find_class W x ≡ Some c → descend W missing deep step zero x ≡ deep
  unfolding descend
  descend-none_left x c e = rw (e, descend) refl

  pub descend-found : (n : ℕ) (x : Bytes) (c : ClassFacts) → find_class W x ≡ Some c → descend W missing deep step (suc n) x ≡ step (descend W missing deep step n) c
  unfolding descend
  descend-found n x c e = rw (e, descend) refl
