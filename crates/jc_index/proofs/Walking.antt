-- Walks up the superclasses of a class, by numbers, and whether one of them declares a key as final.
use Rattle.std.proofs.Common.{◌≡◌, ℕ, suc, ◌<◌, Bool, [], ◌∷◌, refl, sym, ◌∙◌, ap, Option, Some, None}
use Rattle.std.specs.List.{list_any}
use Rattle.std.specs.Prelude.{IfSome}
use Rattle.jc_facts.specs.declared.class_facts.ClassFacts.{ClassFacts}
use Rattle.jc_facts.specs.declared.key.Key.{Key}
use Rattle.jc_facts.specs.Names.{Bytes}
use Rattle.jc_facts.specs.Options.{and_then}
use Rattle.jc_facts.specs.world.World.{World, find_class, size}
use Rattle.jc_facts.specs.world.Search.{descend}
use Rattle.jc_facts.specs.world.Hierarchy.{chain, chain_step, of_super}
use Rattle.jc_facts.specs.world.Inheritance.{declares_as_final, is_final_in_chain}
use Rattle.jc_worlds.proofs.Descent.{descend-absent, descend-none_left, descend-found}
use Rattle.jc_index.specs.Ids.{id_of, name_at, superclass_of}
use Rattle.jc_index.specs.steps.Walking.{chain_from}
use Rattle.jc_index.proofs.Numbers.{id_of-Some, find-None}

-- ---- the chain by numbers

-- what a search gives of a superclass is what it gives of its number
pub from-super : (W : World) (n : ℕ) (s : Option Bytes) → of_super (descend W [] [] chain_step n) s ≡ chain_from W n (and_then (id_of W) s)
unfolding chain_from and_then
from-super W n None = refl
from-super W n (Some x) = go (id_of W x) refl
  where
    go : (o : Option ℕ) → id_of W x ≡ o → descend W [] [] chain_step n x ≡ chain_from W n o
    go None e = descend-absent W [] [] chain_step n x (find-None W x e)
    go (Some id) e = ap (descend W [] [] chain_step n) (sym (id_of-Some W x id e).1)

-- the chain of a superclass
pub chain-super : (W : World) (s : Option Bytes) → of_super (chain W) s ≡ chain_from W (size W) (and_then (id_of W) s)
unfolding chain
chain-super W s = from-super W (size W) s

-- the number of the superclass of a class
pub super-of : (W : World) (x : Bytes) (c : ClassFacts) → find_class W x ≡ Some c → superclass_of W x ≡ and_then (id_of W) c.superclass
unfolding superclass_of and_then
super-of W x c e = rw e refl

-- one step
pub from-step : (W : World) (m n id : ℕ) (c : ClassFacts) → m ≡ suc n → find_class W (name_at W id) ≡ Some c → chain_from W m (Some id) ≡ c ∷ chain_from W n (superclass_of W (name_at W id))
unfolding chain_from chain_step
from-step W m n id c q e =
    ap (λ k. descend W [] [] chain_step k (name_at W id)) q
    ∙ descend-found W [] [] chain_step n (name_at W id) c e
    ∙ ap (λ cs. c ∷ cs) (from-super W n c.superclass ∙ ap (chain_from W n) (sym (super-of W (name_at W id) c e)))

-- no step is left
pub from-none : (W : World) (next : Option ℕ) → chain_from W 0 next ≡ []
unfolding chain_from
from-none W None = refl
from-none W (Some id) = go (find_class W (name_at W id)) refl
  where
    go : (o : Option ClassFacts) → find_class W (name_at W id) ≡ o → descend W [] [] chain_step 0 (name_at W id) ≡ []
    go None e = descend-absent W [] [] chain_step 0 (name_at W id) e
    go (Some c) e = descend-none_left W [] [] chain_step (name_at W id) c e

-- nothing is above
pub from-nothing : (W : World) (n : ℕ) → chain_from W n None ≡ []
unfolding chain_from
from-nothing W n = refl

-- a number of a name is one of the table's
pub number-inside : (W : World) (s : Option Bytes) → IfSome (and_then (id_of W) s) (λ id. id < size W)
unfolding and_then
number-inside W None = tt
number-inside W (Some y) = go (id_of W y) refl
  where
    go : (o : Option ℕ) → id_of W y ≡ o → IfSome o (λ id. id < size W)
    go None e = tt
    go (Some id) e = (id_of-Some W y id e).0

-- ---- whether a class of a walk declares a key as final

-- a class from this number up, so many of them at most, does
abbrev pub declared_from : World → Key → ℕ → Option ℕ → Bool
declared_from W k n next = list_any (declares_as_final k) (chain_from W n next)

pub finals-from : (W : World) (id m : ℕ) (k : Key) → m ≡ size W → is_final_in_chain W (name_at W id) k ≡ declared_from W k m (Some id)
unfolding is_final_in_chain chain chain_from
finals-from W id m k e = rw e refl
