-- Who stands in a chain, also in that of a class on a cycle.
use Rattle.std.proofs.Common.{◌≡◌, ℕ, zero, suc, ◌≤◌, Bool, true, false, [], length, refl, sym, ◌∙◌, ap, subst, Option, Some, None, is_some, ◌||◌}
use mathlib.Core.Path.{fun_ext}
use Rattle.jc_facts.specs.declared.class_facts.ClassFacts.{ClassFacts}
use Rattle.jc_facts.specs.Names.{Bytes, same}
use Rattle.jc_facts.specs.world.World.{World, find_class, size, classes}
use Rattle.jc_facts.specs.world.Search.{descend}
use Rattle.jc_facts.specs.world.Hierarchy.{chain, chain_step, of_super, names_in, in_chain}
use Rattle.jc_lemmas.proofs.Listed.{EachOf}
use Rattle.jc_worlds.proofs.Settles.{IsSearch, settles}
use Rattle.jc_facts.proofs.Same.{same_is}
use Rattle.jc_facts.proofs.World.{names, EachOf-find, find-name, size-names}
use Rattle.jc_worlds.proofs.Descent.{descend-absent, descend-none_left, descend-found}
use Rattle.jc_worlds.proofs.Locality.{chain_step-local}
use Rattle.jc_worlds.proofs.Agree.{Agree, descend-agree}

abbrev above : (Bytes → Bool) → Option Bytes → Bool
above f None = false
above f (Some s) = f s

module _ (W : World) (y : Bytes) where
  -- y is in the first n classes of the chain
  is_up : ℕ → Bytes → Bool
  is_up n x = names_in (descend W [] [] chain_step n x) y

  up-absent : (n : ℕ) (x : Bytes) → find_class W x ≡ None → is_up n x ≡ false
  unfolding is_up
  up-absent n x e = rw (descend-absent W [] [] chain_step n x e) refl

  up-start : (x : Bytes) → is_up zero x ≡ false
  unfolding is_up
  up-start x = go (find_class W x) refl
    where
      go : (o : Option ClassFacts) → find_class W x ≡ o → names_in (descend W [] [] chain_step zero x) y ≡ false
      go None e = rw (descend-absent W [] [] chain_step zero x e) refl
      go (Some c) e = rw (descend-none_left W [] [] chain_step x c e) refl

  up-found : (n : ℕ) (x : Bytes) (c : ClassFacts) → find_class W x ≡ Some c → is_up (suc n) x ≡ (same c.name y || above (is_up n) c.superclass)
  unfolding is_up chain_step
  up-found n x c e = rw (descend-found W [] [] chain_step n x c e) (ap (λ b. same c.name y || b) (go c.superclass))
    where
      go : (s : Option Bytes) → names_in (of_super (descend W [] [] chain_step n) s) y ≡ above (λ x. names_in (descend W [] [] chain_step n x) y) s
      go None = refl
      go (Some s) = refl

  or-keeps : (a : Bool) (f g : Bytes → Bool) → ((x : Bytes) → f x ≡ true → g x ≡ f x) → (s : Option Bytes) → (a || above f s) ≡ true → (a || above g s) ≡ (a || above f s)
  or-keeps true f g h s e = refl
  or-keeps false f g h None e = refl
  or-keeps false f g h (Some s) e = h s e

  up-keeps : (n : ℕ) (x : Bytes) → is_up n x ≡ true → is_up (suc n) x ≡ is_up n x
  up-keeps zero x h = absurd (let p : is_up zero x ≡ false = up-start x in cc)
  up-keeps (suc n) x h = go (find_class W x) refl (up-keeps n)
    where
      go : (o : Option ClassFacts) → find_class W x ≡ o → ((z : Bytes) → is_up n z ≡ true → is_up (suc n) z ≡ is_up n z) → is_up (suc (suc n)) x ≡ is_up (suc n) x
      go None e r = up-absent (suc (suc n)) x e ∙ sym (up-absent (suc n) x e)
      go (Some c) e r =
          let p : is_up (suc n) x ≡ (same c.name y || above (is_up n) c.superclass) = up-found n x c e in
          up-found (suc n) x c e ∙ or-keeps (same c.name y) (is_up n) (is_up (suc n)) r c.superclass (sym p ∙ h) ∙ sym p

  up-covers : (n : ℕ) → EachOf (λ a. is_up (suc n) a ≡ is_up n a) (names (classes W)) → (a : Bytes) → is_up (suc n) a ≡ is_up n a
  up-covers n h a = go (find_class W a) refl
    where
      go : (o : Option ClassFacts) → find_class W a ≡ o → is_up (suc n) a ≡ is_up n a
      go None e = up-absent (suc n) a e ∙ sym (up-absent n a e)
      go (Some c) e = EachOf-find (λ b. is_up (suc n) b ≡ is_up n b) W a c e h

  up-next : (n : ℕ) → ((a : Bytes) → is_up (suc n) a ≡ is_up n a) → (a : Bytes) → is_up (suc (suc n)) a ≡ is_up (suc n) a
  up-next n h a = go (find_class W a) refl
    where
      go : (o : Option ClassFacts) → find_class W a ≡ o → is_up (suc (suc n)) a ≡ is_up (suc n) a
      go None e = up-absent (suc (suc n)) a e ∙ sym (up-absent (suc n) a e)
      go (Some c) e = up-found (suc n) a c e ∙ ap (λ f. same c.name y || above f c.superclass) (fun_ext h) ∙ sym (up-found n a c e)

  up-search : IsSearch (names (classes W)) is_up (λ b. b)
  up-search = record { keeps = up-keeps; waits = λ n a h k. k ∙ sym h; covers = up-covers; next = up-next }

  -- no class further up stands in the chain
  pub in_chain-deep : (n : ℕ) → size W ≤ n → (x : Bytes) → names_in (descend W [] [] chain_step n x) y ≡ in_chain W x y
  unfolding is_up chain
  in_chain-deep n h x =
      let e : length (names (classes W)) ≡ size W = size-names W in
      subst (λ k. is_up n x ≡ is_up k x) e (settles (names (classes W)) is_up (λ b. b) up-search n (rw e h) x)

-- in two worlds that agree on the names above x, x has the same classes in its chain
pub in_chain-agree : (W V : World) (S : Bytes → Type 0) → Agree W V S → size W ≤ size V → (x y : Bytes) → S x → in_chain W x y ≡ in_chain V x y
unfolding chain
in_chain-agree W V S a l x y s =
    sym (in_chain-deep W y (size V) l x) ∙ ap (λ cs. names_in cs y) (descend-agree W V S a [] [] chain_step chain_step-local (size V) x s)

-- who stands in a chain is there
module _ (W : World) (y : Bytes) where
  up_there : (n : ℕ) (x : Bytes) → names_in (descend W [] [] chain_step n x) y ≡ true → is_some (find_class W y) ≡ true
  unfolding chain_step
  up_there zero x h = go (find_class W x) refl
    where
      go : (o : Option ClassFacts) → find_class W x ≡ o → is_some (find_class W y) ≡ true
      go None e = absurd (let z : false ≡ true = ap (λ cs. names_in cs y) (sym (descend-absent W [] [] chain_step zero x e)) ∙ h in cc)
      go (Some c) e = absurd (let z : false ≡ true = ap (λ cs. names_in cs y) (sym (descend-none_left W [] [] chain_step x c e)) ∙ h in cc)
  up_there (suc n) x h = go (find_class W x) refl (up_there n)
    where
      go : (o : Option ClassFacts) → find_class W x ≡ o → ((z : Bytes) → names_in (descend W [] [] chain_step n z) y ≡ true → is_some (find_class W y) ≡ true) → is_some (find_class W y) ≡ true
      go None e r = absurd (let z : false ≡ true = ap (λ cs. names_in cs y) (sym (descend-absent W [] [] chain_step (suc n) x e)) ∙ h in cc)
      go (Some c) e r = by (same c.name y) refl c.superclass (ap (λ cs. names_in cs y) (sym (descend-found W [] [] chain_step n x c e)) ∙ h)
        where
          by : (b : Bool) → same c.name y ≡ b → (s : Option Bytes) → (b || names_in (of_super (descend W [] [] chain_step n) s) y) ≡ true → is_some (find_class W y) ≡ true
          by true q s k = subst (λ z. is_some (find_class W z) ≡ true) (sym (find-name W x c e) ∙ same_is c.name y q) (ap is_some e)
          by false q None k = absurd (let z : false ≡ true = k in cc)
          by false q (Some s) k = r s k

pub chain_there : (W : World) (x y : Bytes) → in_chain W x y ≡ true → is_some (find_class W y) ≡ true
unfolding chain
chain_there W x y h = up_there W y (size W) x h

-- one that isn't there stands in none
pub absent_above : (W : World) (x y : Bytes) → find_class W y ≡ None → in_chain W x y ≡ false
absent_above W x y a = go (in_chain W x y) refl
  where
    go : (b : Bool) → in_chain W x y ≡ b → b ≡ false
    go false e = refl
    go true e = absurd (let z : false ≡ true = sym (ap is_some a) ∙ chain_there W x y e in cc)

-- nothing stands above a class that isn't there
pub none_above : (W : World) (x y : Bytes) → find_class W x ≡ None → in_chain W x y ≡ false
unfolding chain
none_above W x y a = ap (λ cs. names_in cs y) (descend-absent W [] [] chain_step (size W) x a)
