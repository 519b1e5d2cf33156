-- What the names of clients in scope are with each side.
--     free_old, free_new      a name that clients in scope may have is free on both sides
--     allowed_if_permitted      and allowed for both where the old side permits it
--     client_name      an allowed name is one
use Rattle.std.proofs.Common.{◌≡◌, Bool, true, false, List, [], refl, Option, Some, None, is_some, not, ◌||◌, ◌&&◌, nat_le, length}
use Rattle.std.proofs.lemmas.Bool.{and_parts, and_from, not-true, both_ways, or_right}
use Rattle.std.specs.Str.{is_utf8}
use Rattle.jc_facts.specs.declared.class_facts.ClassFacts.{ClassFacts}
use Rattle.jc_facts.specs.Names.{Bytes, is_name_among}
use Rattle.jc_facts.specs.world.World.{World, find_class, class_named, classes}
use Rattle.jc_facts.specs.world.Search.{supers}
use Rattle.jc_facts.specs.world.Mentioned.{is_named_above, permitted}
use Rattle.jc_facts.specs.client.Allowed.{is_allowed_name, has_package}
use Rattle.jc_promises.specs.client.Names.{is_free_name, is_permitted, is_client_name}
use Rattle.jc_promises.specs.rule.Bases.{allowed}
use Rattle.jc_lemmas.proofs.Listed.{EachOf, EachOf-map}
use Rattle.jc_lemmas.proofs.Options.{none_from}
use Rattle.jc_facts.proofs.World.{names, any-named, EachOf-class_named}
use Rattle.jc_worlds.proofs.Allowed.{among_each}
use Rattle.jc_worlds.proofs.Clients.{Fits}
use Rattle.jc_worlds.proofs.Packages.{AllowedParts}

-- ---- free names

pub free_parts : (W : World) (x : Bytes) → is_free_name W x ≡ true → AllowedParts W x
unfolding is_free_name
free_parts W x h =
    let a = and_parts (not (is_some (find_class W x)) && not (is_named_above W x)) (not (has_package W x)) h in
    let b = and_parts (not (is_some (find_class W x))) (not (is_named_above W x)) a.0 in
    record { absent = none_from (find_class W x) (not-true (is_some (find_class W x)) b.0); unused = not-true (is_named_above W x) b.1; apart = not-true (has_package W x) a.1 }

pub free_name : (W : World) (x : Bytes) → is_allowed_name W x ≡ true → is_free_name W x ≡ true
unfolding is_allowed_name is_free_name
free_name W x h = (and_parts (is_free_name W x) (nat_le (length x) 4090) (and_parts (is_free_name W x && nat_le (length x) 4090) (is_utf8 x) h).0).0

-- clients of free names fit a bare world
pub fits_by_names : (W : World) (cs : List ClassFacts) → W.clients ≡ [] → EachOf (λ n. is_free_name W n ≡ true) (names cs) → Fits W cs
unfolding find_class
fits_by_names W cs bare free = record {
  bare = bare;
  undeclared = λ x c e. (parts x c e).absent;
  unused = λ x c e. EachOf-map (λ s h. by x c e s h (class_named cs s) refl) (supers c) (among_each (supers c));
}
  where
    parts : (x : Bytes) (c : ClassFacts) → class_named cs x ≡ Some c → AllowedParts W x
    parts x c e = free_parts W x (EachOf-class_named (λ n. is_free_name W n ≡ true) cs x c e free)

    by : (x : Bytes) (c : ClassFacts) → find_class W x ≡ Some c → (s : Bytes) → is_name_among (supers c) s ≡ true → (o : Option ClassFacts) → class_named cs s ≡ o → o ≡ None
    by x c e s h None q = refl
    by x c e s h (Some d) q = absurd (both_ways (is_named_above W s) (parts s d q).unused (any-named (λ d. is_name_among (supers d) s) (classes W) x c e h))

-- ---- names that clients of two sides may have

-- x is free on both sides, and allowed where it is permitted
record NameParts (O N : World) (x : Bytes) : Type 0 where
  old : is_free_name O x ≡ true
  new : is_free_name N x ≡ true
  ask : (not (is_permitted O x) || allowed O N x) ≡ true

name_parts : (O N : World) (x : Bytes) → is_client_name O N x ≡ true → NameParts O N x
unfolding is_client_name
name_parts O N x h =
    let a = and_parts (is_free_name O x && is_free_name N x) (not (is_permitted O x) || allowed O N x) h in
    let b = and_parts (is_free_name O x) (is_free_name N x) a.0 in
    record { old = b.0; new = b.1; ask = a.1 }

name_from : (O N : World) (x : Bytes) → NameParts O N x → is_client_name O N x ≡ true
unfolding is_client_name
name_from O N x p = and_from (is_free_name O x && is_free_name N x) (not (is_permitted O x) || allowed O N x) (and_from (is_free_name O x) (is_free_name N x) p.old p.new) p.ask

pub free_old : (O N : World) (x : Bytes) → is_client_name O N x ≡ true → is_free_name O x ≡ true
free_old O N x h = (name_parts O N x h).old

pub free_new : (O N : World) (x : Bytes) → is_client_name O N x ≡ true → is_free_name N x ≡ true
free_new O N x h = (name_parts O N x h).new

pub fits_old : (O N : World) (cs : List ClassFacts) → O.clients ≡ [] → EachOf (λ n. is_client_name O N n ≡ true) (names cs) → Fits O cs
fits_old O N cs bare h = fits_by_names O cs bare (EachOf-map (free_old O N) (names cs) h)

pub fits_new : (O N : World) (cs : List ClassFacts) → N.clients ≡ [] → EachOf (λ n. is_client_name O N n ≡ true) (names cs) → Fits N cs
fits_new O N cs bare h = fits_by_names N cs bare (EachOf-map (free_new O N) (names cs) h)

-- a class of the old side that has the name among its permitted ones
pub allowed_if_permitted : (O N : World) (x : Bytes) → is_client_name O N x ≡ true → (y : Bytes) (d : ClassFacts) → find_class O y ≡ Some d → is_name_among (permitted d.permits) x ≡ true → allowed O N x ≡ true
unfolding find_class
allowed_if_permitted O N x h y d e p =
    go (is_permitted O x) (any-named (λ d. is_name_among (permitted d.permits) x) (classes O) y d e p) (name_parts O N x h).ask
  where
    go : (b : Bool) → b ≡ true → (not b || allowed O N x) ≡ true → allowed O N x ≡ true
    go true q a = a
    go false q a = absurd (cc)

pub client_name : (O N : World) (x : Bytes) → allowed O N x ≡ true → is_client_name O N x ≡ true
client_name O N x h =
    let a = and_parts (is_allowed_name O x) (is_allowed_name N x) h in
    name_from O N x (record { old = free_name O x a.0; new = free_name N x a.1; ask = or_right (not (is_permitted O x)) (allowed O N x) h })

-- the old side beside itself
pub old_name : (O N : World) (x : Bytes) → is_client_name O N x ≡ true → is_client_name O O x ≡ true
old_name O N x h =
    let p = name_parts O N x h in
    name_from O O x (record { old = p.old; new = p.old; ask = go (not (is_permitted O x)) p.ask })
  where
    go : (b : Bool) → (b || allowed O N x) ≡ true → (b || allowed O O x) ≡ true
    go true a = refl
    go false a = let w = (and_parts (is_allowed_name O x) (is_allowed_name N x) a).0 in and_from (is_allowed_name O x) (is_allowed_name O x) w w
