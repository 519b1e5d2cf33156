-- A walk up the superclasses of a class, by numbers.
use Rattle.std.proofs.Common.{◌≡◌, ◌≢◌, ℕ, zero, suc, ◌<◌, arith, Bool, true, false, ◌||◌, List, [], refl, sym, ◌∙◌, ap, subst, Option, Some, None}
use Rattle.std.specs.Prelude.{IsTrue}
use Rattle.jc_facts.specs.declared.class_facts.ClassFacts.{ClassFacts}
use Rattle.jc_facts.specs.Names.{Bytes, same}
use Rattle.jc_facts.specs.Options.{and_then}
use Rattle.jc_facts.specs.world.World.{World, classes, size, find_class, differ_by_name}
use Rattle.jc_facts.specs.world.Search.{descend}
use Rattle.jc_facts.specs.world.Hierarchy.{chain, in_chain, chain_step, of_super, names_in}
use Rattle.jc_facts.proofs.Same.{same_is, same_itself}
use Rattle.jc_worlds.proofs.Descent.{descend-absent, descend-none_left, descend-found}
use Rattle.jc_index.specs.Ids.{name_at, id_of, superclass_of}
use Rattle.jc_index.proofs.Numbers.{IsClass, class_at, superclass_is, find-None, id_of-Some, id_of-name_at}

-- y is among the first n classes of the chain of x
abbrev pub is_up : World → ℕ → Bytes → Bytes → Bool
is_up W n x y = names_in (descend W [] [] chain_step n x) y

-- all levels are as many as the world has classes
pub up-chain : (W : World) (x y : Bytes) → in_chain W x y ≡ is_up W (size W) x y
unfolding chain
up-chain W x y = refl

module _ (W : World) (d : IsTrue (differ_by_name (classes W))) (a : ℕ) (l : a < size W) where
  -- it is the class, or among those above what it names
  one_step : (n : ℕ) (y : Bytes) (c : ClassFacts) → find_class W (name_at W a) ≡ Some c → c.name ≡ name_at W a
      → is_up W (suc n) (name_at W a) y ≡ (same (name_at W a) y || names_in (of_super (descend W [] [] chain_step n) c.superclass) y)
  unfolding chain_step
  one_step n y c e name =
      ap (λ (cs : List ClassFacts). names_in cs y) (descend-found W [] [] chain_step n (name_at W a) c e)
      ∙ ap (λ (x : Bytes). same x y || names_in (of_super (descend W [] [] chain_step n) c.superclass) y) name

  pub up-none_left : (y : Bytes) → is_up W 0 (name_at W a) y ≡ false
  up-none_left y =
      let k = class_at W a d l in
      ap (λ (cs : List ClassFacts). names_in cs y) (descend-none_left W [] [] chain_step (name_at W a) k.facts k.found)

  pub up-itself : (m : ℕ) → 0 < m → is_up W m (name_at W a) (name_at W a) ≡ true
  up-itself zero h = absurd (omega arith)
  up-itself (suc n) h =
      let k = class_at W a d l in
      one_step n (name_at W a) k.facts k.found k.name
      ∙ ap (λ (b : Bool). b || names_in (of_super (descend W [] [] chain_step n) k.facts.superclass) (name_at W a)) (same_itself (name_at W a))

  not_same : (b : ℕ) → b < size W → a ≢ b → same (name_at W a) (name_at W b) ≡ false
  not_same b m n = go (same (name_at W a) (name_at W b)) refl
    where
      go : (t : Bool) → same (name_at W a) (name_at W b) ≡ t → t ≡ false
      go true e = absurd (let p : Some a ≡ Some b = sym (id_of-name_at W a d l) ∙ ap (id_of W) (same_is (name_at W a) (name_at W b) e) ∙ id_of-name_at W b d m in n cc)
      go false e = refl

  -- where it is another class, it is among those above what the class names
  other : (n b : ℕ) → b < size W → a ≢ b → (c : ClassFacts) → find_class W (name_at W a) ≡ Some c → c.name ≡ name_at W a
      → is_up W (suc n) (name_at W a) (name_at W b) ≡ names_in (of_super (descend W [] [] chain_step n) c.superclass) (name_at W b)
  other n b m ne c e name =
      one_step n (name_at W b) c e name ∙ ap (λ (t : Bool). t || names_in (of_super (descend W [] [] chain_step n) c.superclass) (name_at W b)) (not_same b m ne)

  pub up-top : (m b : ℕ) → 0 < m → b < size W → a ≢ b → None ≡ superclass_of W (name_at W a) → is_up W m (name_at W a) (name_at W b) ≡ false
  unfolding and_then
  up-top zero b h m ne none = absurd (omega arith)
  up-top (suc n) b h m ne none = other n b m ne k.facts k.found k.name ∙ go k.facts.superclass (none ∙ superclass_is W (name_at W a) k.facts (sym k.found))
    where
      k : IsClass W (name_at W a)
      k = class_at W a d l

      go : (s : Option Bytes) → None ≡ and_then (id_of W) s → names_in (of_super (descend W [] [] chain_step n) s) (name_at W b) ≡ false
      go None e = refl
      go (Some x) e = ap (λ (cs : List ClassFacts). names_in cs (name_at W b)) (descend-absent W [] [] chain_step n x (find-None W x (sym e)))

  above : (n b t : ℕ) → b < size W → a ≢ b → Some t ≡ superclass_of W (name_at W a) → is_up W (suc n) (name_at W a) (name_at W b) ≡ is_up W n (name_at W t) (name_at W b)
  unfolding and_then
  above n b t m ne some = other n b m ne k.facts k.found k.name ∙ go k.facts.superclass (some ∙ superclass_is W (name_at W a) k.facts (sym k.found))
    where
      k : IsClass W (name_at W a)
      k = class_at W a d l

      go : (s : Option Bytes) → Some t ≡ and_then (id_of W) s → names_in (of_super (descend W [] [] chain_step n) s) (name_at W b) ≡ is_up W n (name_at W t) (name_at W b)
      go None e = absurd (let clash : Some t ≡ None = e in cc)
      go (Some x) e = ap (λ (y : Bytes). is_up W n y (name_at W b)) (sym (id_of-Some W x t (sym e)).1)

  pub up-above : (m n b t : ℕ) → suc n ≡ m → b < size W → a ≢ b → Some t ≡ superclass_of W (name_at W a) → is_up W m (name_at W a) (name_at W b) ≡ is_up W n (name_at W t) (name_at W b)
  unfolding and_then
  up-above m n b t h l' ne some = subst (λ (j : ℕ). is_up W j (name_at W a) (name_at W b) ≡ is_up W n (name_at W t) (name_at W b)) h (above n b t l' ne some)
