-- Clients with allowed names have no name that the side's classes use.
use Rattle.std.proofs.Common.{◌≡◌, true, false, List, [], ◌∷◌, refl, Option, Some, None}
use Rattle.std.proofs.lemmas.Bool.{and_parts, not-true, both_ways, or_right, or_left}
use Rattle.jc_facts.specs.declared.class_facts.ClassFacts.{ClassFacts}
use Rattle.jc_facts.specs.Names.{Bytes, same, is_name_among}
use Rattle.jc_facts.specs.world.World.{World, find_class, class_named, classes}
use Rattle.jc_facts.specs.world.Search.{supers}
use Rattle.jc_facts.specs.client.Allowed.{is_allowed_name}
use Rattle.jc_facts.specs.world.Mentioned.{is_named_above}
use Rattle.jc_lemmas.proofs.Listed.{EachOf, EachOf-map}
use Rattle.jc_facts.proofs.Same.{same_itself}
use Rattle.jc_facts.proofs.World.{EachOf-class_named, names, any-named}
use Rattle.jc_worlds.proofs.Sides.{IsLibrary}

pub among_each : (xs : List Bytes) → EachOf (λ s. is_name_among xs s ≡ true) xs
among_each [] = tt
among_each (x ∷ xs) = (or_left (same x x) (is_name_among xs x) (same_itself x), EachOf-map (λ s h. or_right (same x s) (is_name_among xs s) h) xs (among_each xs))

names_super-found : (W : World) (x : Bytes) (c : ClassFacts) (s : Bytes) → find_class W x ≡ Some c → is_name_among (supers c) s ≡ true → is_named_above W s ≡ true
unfolding find_class
names_super-found W x c s e h = any-named (λ d. is_name_among (supers d) s) (classes W) x c e h

allowed-unused : (W : World) (x : Bytes) → is_allowed_name W x ≡ true → is_named_above W x ≡ false
unfolding is_allowed_name
allowed-unused W x h =
    let a = and_parts _ _ h in let b = and_parts _ _ a.0 in let c = and_parts _ _ b.0 in let d = and_parts _ _ c.0 in not-true (is_named_above W x) d.1

pub unused_from_allowed : (W : World) (clients : List ClassFacts) (bare : W.clients ≡ []) → EachOf (λ n. is_allowed_name W n ≡ true) (names clients)
    → (x : Bytes) (c : ClassFacts) → find_class W x ≡ Some c → EachOf (IsLibrary W clients bare) (supers c)
unused_from_allowed W clients bare allowed x c e = EachOf-map go (supers c) (among_each (supers c))
  where
    by : (s : Bytes) → is_name_among (supers c) s ≡ true → (o : Option ClassFacts) → class_named clients s ≡ o → o ≡ None
    by s h None q = refl
    by s h (Some d) q =
        let a : is_allowed_name W s ≡ true = EachOf-class_named (λ n. is_allowed_name W n ≡ true) clients s d q allowed in
        absurd (both_ways (is_named_above W s) (allowed-unused W s a) (names_super-found W x c s e h))

    go : (s : Bytes) → is_name_among (supers c) s ≡ true → class_named clients s ≡ None
    go s h = by s h (class_named clients s) refl
