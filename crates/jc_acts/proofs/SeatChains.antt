-- What a chain that lost no class says of the classes in it.
use Rattle.std.proofs.Common.{◌≡◌, Bool, true, false, not, ◌||◌, List, [], ◌∷◌, refl, subst, ◌⊎◌, inl, inr}
use Rattle.std.specs.List.{list_any}
use Rattle.std.proofs.lemmas.Bool.{or_cases}
use Rattle.jc_facts.specs.declared.class_facts.ClassFacts.{ClassFacts}
use Rattle.jc_facts.specs.Names.{Bytes, same}
use Rattle.jc_facts.specs.world.Hierarchy.{chain, in_chain, names_in}
use Rattle.jc_facts.proofs.Same.{same_is}
use Rattle.jc_sides.specs.SidesOf.{SidesOf}
use Rattle.jc_acts.specs.Seats.{loses_class}

none_lost : (sides : SidesOf) (a y : Bytes) (cs : List ClassFacts) → list_any (λ c. not (in_chain sides.new a c.name)) cs ≡ false → names_in cs y ≡ true → in_chain sides.new a y ≡ true
none_lost sides a y [] k h = absurd (cc)
none_lost sides a y (c ∷ cs) k h = go (in_chain sides.new a c.name) refl k (or_cases (same c.name y) (names_in cs y) h) (none_lost sides a y cs)
  where
    go : (b : Bool) → in_chain sides.new a c.name ≡ b → (not b || list_any (λ c. not (in_chain sides.new a c.name)) cs) ≡ false → (same c.name y ≡ true) ⊎ (names_in cs y ≡ true)
        → (list_any (λ c. not (in_chain sides.new a c.name)) cs ≡ false → names_in cs y ≡ true → in_chain sides.new a y ≡ true) → in_chain sides.new a y ≡ true
    go false e k p r = absurd (cc)
    go true e k (inl p) r = subst (λ (z : Bytes). in_chain sides.new a z ≡ true) (same_is c.name y p) e
    go true e k (inr p) r = r k p

-- where no class of the chain is lost, what stood above stands above
pub keeps : (s : SidesOf) (a : Bytes) → loses_class s a ≡ false → (y : Bytes) → in_chain s.old a y ≡ true → in_chain s.new a y ≡ true
keeps s a h y i = none_lost s a y (chain s.old a) h i
