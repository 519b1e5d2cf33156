-- Who is led to by interfaces, also from a class on a cycle.
use Rattle.std.proofs.Common.{◌≡◌, ℕ, zero, suc, ◌≤◌, Bool, true, false, List, [], length, refl, sym, ◌∙◌, ap, subst, Option, Some, None, ◌||◌, arith}
use mathlib.Core.Path.{fun_ext}
use Rattle.std.specs.List.{list_any}
use Rattle.jc_facts.specs.declared.class_facts.ClassFacts.{ClassFacts}
use Rattle.jc_facts.specs.Names.{Bytes, same}
use Rattle.jc_facts.specs.Options.{some_and}
use Rattle.jc_facts.specs.world.World.{World, find_class, size, classes}
use Rattle.jc_facts.specs.world.Search.{descend}
use Rattle.jc_facts.specs.world.Hierarchy.{chain, chain_step, of_super, interfaces_step, with_interfaces, names_in, in_chain}
use Rattle.jc_worlds.specs.Hierarchy.{LevelsSuffice, AboveIsOneStep}
use Rattle.jc_lemmas.proofs.Listed.{EachOf}
use Rattle.jc_worlds.proofs.Settles.{IsSearch, settles}
use Rattle.jc_facts.proofs.World.{names, EachOf-find, size-names}
use Rattle.jc_worlds.proofs.Descent.{descend-absent, descend-none_left, descend-found}
use Rattle.jc_worlds.proofs.Chains.{in_chain-deep}
use Rattle.jc_lemmas.proofs.Lists.{any_weaker}
use Rattle.jc_facts.proofs.Hierarchy.{names_in-each}

module _ (W : World) (y : Bytes) where
  -- y is reached by n levels of interfaces
  is_led : ℕ → Bytes → Bool
  is_led n x = names_in (descend W [] [] interfaces_step n x) y

  led-absent : (n : ℕ) (x : Bytes) → find_class W x ≡ None → is_led n x ≡ false
  unfolding is_led
  led-absent n x e = rw (descend-absent W [] [] interfaces_step n x e) refl

  led-start : (x : Bytes) → is_led zero x ≡ false
  unfolding is_led
  led-start x = go (find_class W x) refl
    where
      go : (o : Option ClassFacts) → find_class W x ≡ o → names_in (descend W [] [] interfaces_step zero x) y ≡ false
      go None e = rw (descend-absent W [] [] interfaces_step zero x e) refl
      go (Some c) e = rw (descend-none_left W [] [] interfaces_step x c e) refl

  led-found : (n : ℕ) (x : Bytes) (c : ClassFacts) → find_class W x ≡ Some c → is_led (suc n) x ≡ (same c.name y || list_any (is_led n) c.interfaces)
  unfolding is_led interfaces_step
  led-found n x c e = rw (descend-found W [] [] interfaces_step n x c e) (ap (λ b. same c.name y || b) (names_in-each (descend W [] [] interfaces_step n) c.interfaces y))

  or-keeps : (a : Bool) (f g : Bytes → Bool) → ((x : Bytes) → f x ≡ true → g x ≡ f x) → (is : List Bytes) → (a || list_any f is) ≡ true → (a || list_any g is) ≡ (a || list_any f is)
  or-keeps true f g h is e = refl
  or-keeps false f g h is e = any_weaker f g (λ x p. h x p ∙ p) is e ∙ sym e

  led-keeps : (n : ℕ) (x : Bytes) → is_led n x ≡ true → is_led (suc n) x ≡ is_led n x
  led-keeps zero x h = absurd (let p : is_led zero x ≡ false = led-start x in cc)
  led-keeps (suc n) x h = go (find_class W x) refl (led-keeps n)
    where
      go : (o : Option ClassFacts) → find_class W x ≡ o → ((z : Bytes) → is_led n z ≡ true → is_led (suc n) z ≡ is_led n z) → is_led (suc (suc n)) x ≡ is_led (suc n) x
      go None e r = led-absent (suc (suc n)) x e ∙ sym (led-absent (suc n) x e)
      go (Some c) e r =
          let p : is_led (suc n) x ≡ (same c.name y || list_any (is_led n) c.interfaces) = led-found n x c e in
          led-found (suc n) x c e ∙ or-keeps (same c.name y) (is_led n) (is_led (suc n)) r c.interfaces (sym p ∙ h) ∙ sym p

  led-covers : (n : ℕ) → EachOf (λ a. is_led (suc n) a ≡ is_led n a) (names (classes W)) → (a : Bytes) → is_led (suc n) a ≡ is_led n a
  led-covers n h a = go (find_class W a) refl
    where
      go : (o : Option ClassFacts) → find_class W a ≡ o → is_led (suc n) a ≡ is_led n a
      go None e = led-absent (suc n) a e ∙ sym (led-absent n a e)
      go (Some c) e = EachOf-find (λ b. is_led (suc n) b ≡ is_led n b) W a c e h

  led-next : (n : ℕ) → ((a : Bytes) → is_led (suc n) a ≡ is_led n a) → (a : Bytes) → is_led (suc (suc n)) a ≡ is_led (suc n) a
  led-next n h a = go (find_class W a) refl
    where
      go : (o : Option ClassFacts) → find_class W a ≡ o → is_led (suc (suc n)) a ≡ is_led (suc n) a
      go None e = led-absent (suc (suc n)) a e ∙ sym (led-absent (suc n) a e)
      go (Some c) e = led-found (suc n) a c e ∙ ap (λ f. same c.name y || list_any f c.interfaces) (fun_ext h) ∙ sym (led-found n a c e)

  led-search : IsSearch (names (classes W)) is_led (λ b. b)
  led-search = record { keeps = led-keeps; waits = λ n a h k. k ∙ sym h; covers = led-covers; next = led-next }

  -- no class further on is led to
  pub led-deep : (n : ℕ) → size W ≤ n → (x : Bytes) → names_in (descend W [] [] interfaces_step n x) y ≡ names_in (with_interfaces W x) y
  unfolding is_led with_interfaces
  led-deep n h x =
      let e : length (names (classes W)) ≡ size W = size-names W in
      subst (λ k. is_led n x ≡ is_led k x) e (settles (names (classes W)) is_led (λ b. b) led-search n (rw e h) x)

  led-step : (x : Bytes) (c : ClassFacts) → find_class W x ≡ Some c → names_in (with_interfaces W x) y ≡ (same c.name y || list_any (λ i. names_in (with_interfaces W i) y) c.interfaces)
  unfolding is_led with_interfaces
  led-step x c e = sym (led-deep (suc (size W)) (omega arith) x) ∙ led-found (size W) x c e

  chain-step : (x : Bytes) (c : ClassFacts) → find_class W x ≡ Some c → in_chain W x y ≡ (same c.name y || some_and (λ s. in_chain W s y) c.superclass)
  unfolding chain chain_step
  chain-step x c e = sym (in_chain-deep W y (suc (size W)) (omega arith) x) ∙ rw (descend-found W [] [] chain_step (size W) x c e) (ap (λ b. same c.name y || b) (go c.superclass))
    where
      go : (s : Option Bytes) → names_in (of_super (descend W [] [] chain_step (size W)) s) y ≡ some_and (λ z. names_in (descend W [] [] chain_step (size W) z) y) s
      go None = refl
      go (Some s) = refl

pub levels_suffice : LevelsSuffice
levels_suffice W n h x y = (in_chain-deep W y n h x, led-deep W y n h x)

pub above_is_one_step : AboveIsOneStep
above_is_one_step W x y c e = (chain-step W y x c e, led-step W y x c e)
