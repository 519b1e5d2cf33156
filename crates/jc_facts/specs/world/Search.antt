-- A search from a class to the classes above it, level by level.
--     supers c      the names that a class needs to load (JVMS 5.3.5)
--     descend W missing deep step n x      what `step` makes of the class x and of what the search gives above it
use Rattle.std.specs.Prelude.{ℕ, zero, suc, List, ◌∷◌, Option, None, Some}
use Rattle.jc_facts.specs.declared.class_facts.ClassFacts.{ClassFacts}
use Rattle.jc_facts.specs.Names.{Bytes}
use Rattle.jc_facts.specs.world.World.{World, find_class}

-- the superclass, where there is one, and then the interfaces
abbrev pub supers_of : Option Bytes → List Bytes → List Bytes
supers_of None is = is
supers_of (Some s) is = s ∷ is

-- the names that the class needs to load: its superclass and then its interfaces (JVMS 4.1)
abbrev pub supers : ClassFacts → List Bytes
supers c = supers_of c.superclass c.interfaces

-- what `f` makes of the class, or `missing` where there is none
abbrev pub of_class : {B : Type 0} → B → (ClassFacts → B) → Option ClassFacts → B
of_class missing f None = missing
of_class missing f (Some c) = f c

-- a search at most n levels deep: `missing` where the world has no class of the name, `deep` where no level is left,
-- and else what `step` makes of the class, given the search with one level less
unfoldable pub descend : {B : Type 0} → World → B → B → ((Bytes → B) → ClassFacts → B) → ℕ → Bytes → B
descend W missing deep step zero x = of_class missing (λ c. deep) (find_class W x)
descend W missing deep step (suc n) x = of_class missing (λ c. step (descend W missing deep step n) c) (find_class W x)
