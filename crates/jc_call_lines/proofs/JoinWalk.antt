-- A test on the classes of a chain, along a walk up the superclasses.
use Rattle.std.proofs.Common.{◌≡◌, ◌<◌, ℕ, suc, Bool, true, false, not, ◌||◌, ◌&&◌, List, [], ◌∷◌, refl, sym, ◌∙◌, ap, Option, None, Some}
use Rattle.std.specs.List.{list_any, list_all}
use Rattle.jc_facts.specs.declared.class_facts.ClassFacts.{ClassFacts}
use Rattle.jc_facts.specs.Names.{Bytes}
use Rattle.jc_facts.specs.Options.{and_then}
use Rattle.jc_facts.specs.world.Hierarchy.{chain, chain_step, in_chain, of_super}
use Rattle.jc_facts.specs.world.Search.{descend, of_class}
use Rattle.jc_facts.specs.world.World.{World, find_class, size}
use Rattle.jc_index.specs.Ids.{id_of, name_at, superclass_of}
use Rattle.jc_index.specs.Sides.{IsSide}
use Rattle.jc_index.proofs.Numbers.{IsClass, class_at, find-None, id_of-Some}
use Rattle.jc_index.proofs.Walking.{super-of}
use Rattle.jc_worlds.proofs.Descent.{descend-absent, descend-found}

-- ---- the classes that a walk comes past

-- those that n levels lead to from the number that is next
abbrev pub walk : World → ℕ → Option ℕ → List ClassFacts
walk W n None = []
walk W n (Some k) = descend W [] [] chain_step n (name_at W k)

-- no level is left
walked_out : (W : World) (next : Option ℕ) → walk W 0 next ≡ []
unfolding descend
walked_out W None = refl
walked_out W (Some k) = go (find_class W (name_at W k))
  where
    go : (o : Option ClassFacts) → of_class {B = List ClassFacts} [] (λ c. []) o ≡ []
    go None = refl
    go (Some c) = refl

-- what the superclass leads to
from_super : (W : World) (m : ℕ) (o : Option Bytes) → of_super (descend W [] [] chain_step m) o ≡ walk W m (and_then (id_of W) o)
unfolding and_then
from_super W m None = refl
from_super W m (Some s) = go (id_of W s) refl
  where
    go : (i : Option ℕ) → id_of W s ≡ i → descend W [] [] chain_step m s ≡ walk W m i
    go None e = descend-absent W [] [] chain_step m s (find-None W s e)
    go (Some k) e = ap (descend W [] [] chain_step m) (sym ((id_of-Some W s k e).1))

-- one level
level : (W : World) (m k : ℕ) (c : ClassFacts) → find_class W (name_at W k) ≡ Some c → walk W (suc m) (Some k) ≡ c ∷ walk W m (superclass_of W (name_at W k))
unfolding chain_step
level W m k c e = descend-found W [] [] chain_step m (name_at W k) c e ∙ ap (λ cs. c ∷ cs) (from_super W m c.superclass ∙ ap (walk W m) (sym (super-of W (name_at W k) c e)))

-- ---- the test

-- the class stands in the chain of y, and not in that of t
abbrev pub sooner : World → Bytes → Bytes → ClassFacts → Bool
sooner W y t c = in_chain W y c.name && not (in_chain W t c.name)

-- of the classes that so many steps lead to from the number one is such
abbrev pub any_from : World → Bytes → Bytes → ℕ → Option ℕ → Bool
any_from W y t m next = list_any (sooner W y t) (walk W m next)

pub walk_starts : (W : World) (y t : Bytes) (id m : ℕ) → m ≡ size W → list_any (sooner W y t) (chain W (name_at W id)) ≡ any_from W y t m (Some id)
unfolding chain
walk_starts W y t id m e = rw e refl

-- one class further up
walk_step : (W : World) → IsSide W → (y t : Bytes) (m n id : ℕ) (next : Option ℕ) → m ≡ suc n → next ≡ Some id → id < size W
    → any_from W y t m next ≡ ((in_chain W y (name_at W id) && not (in_chain W t (name_at W id))) || any_from W y t n (superclass_of W (name_at W id)))
walk_step W side y t m n id next e q l =
    let c : IsClass W (name_at W id) = class_at W id side.differ l in
    ap (any_from W y t m) q ∙ ap (λ k. any_from W y t k (Some id)) e ∙ ap (list_any (sooner W y t)) (level W n id c.facts c.found)
    ∙ ap (λ z. (in_chain W y z && not (in_chain W t z)) || any_from W y t n (superclass_of W (name_at W id))) c.name

pub walk_here : (W : World) → IsSide W → (y t : Bytes) (m n id : ℕ) (next : Option ℕ) (b : Bool) → m ≡ suc n → next ≡ Some id → id < size W → b ≡ (in_chain W y (name_at W id) && not (in_chain W t (name_at W id))) → b ≡ true → any_from W y t m next ≡ true
walk_here W side y t m n id next b e q l h s = walk_step W side y t m n id next e q l ∙ ap (λ z. z || any_from W y t n (superclass_of W (name_at W id))) (sym h ∙ s)

pub walk_on : (W : World) → IsSide W → (y t : Bytes) (m n id : ℕ) (next up : Option ℕ) (b : Bool) → m ≡ suc n → next ≡ Some id → id < size W → b ≡ (in_chain W y (name_at W id) && not (in_chain W t (name_at W id))) → b ≡ false → up ≡ superclass_of W (name_at W id)
    → any_from W y t m next ≡ any_from W y t n up
walk_on W side y t m n id next up b e q l h s u = walk_step W side y t m n id next e q l ∙ ap (λ z. z || any_from W y t n (superclass_of W (name_at W id))) (sym h ∙ s) ∙ ap (any_from W y t n) (sym u)

pub walk_out : (W : World) (y t : Bytes) (m : ℕ) (next : Option ℕ) → next ≡ None → any_from W y t m next ≡ false
walk_out W y t m next e = ap (any_from W y t m) e

pub walk_ends : (W : World) (y t : Bytes) (m : ℕ) (next : Option ℕ) → m ≡ 0 → any_from W y t m next ≡ false
walk_ends W y t m next e = ap (λ n. any_from W y t n next) e ∙ ap (list_any (sooner W y t)) (walked_out W next)

-- no class is such exactly where each is the other way
pub none_sooner : (W : World) (x y t : Bytes) (b : Bool) → b ≡ list_any (sooner W y t) (chain W x) → not b ≡ list_all (λ c. not (in_chain W y c.name) || in_chain W t c.name) (chain W x)
none_sooner W x y t b e = ap not e ∙ each (chain W x)
  where
    one : (p q r : Bool) → not (p && not q || r) ≡ ((not p || q) && not r)
    one true true r = refl
    one true false r = refl
    one false q r = refl

    each : (cs : List ClassFacts) → not (list_any (sooner W y t) cs) ≡ list_all (λ c. not (in_chain W y c.name) || in_chain W t c.name) cs
    each [] = refl
    each (c ∷ cs) = one (in_chain W y c.name) (in_chain W t c.name) (list_any (sooner W y t) cs) ∙ ap (λ z. (not (in_chain W y c.name) || in_chain W t c.name) && z) (each cs)
