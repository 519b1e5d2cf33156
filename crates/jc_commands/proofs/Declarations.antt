-- Whom a side's classes name and what they declare, as lists of candidates.
--     all_keys cs      the keys of all members of the classes
use Rattle.std.proofs.Common.{◌≡◌, Bool, true, false, cond, ℕ, zero, suc, List, [], ◌∷◌, ◌++◌, map, refl, sym, subst, Option, Some, None, ◌⊎◌, inl, inr}
use Rattle.std.specs.Prelude.{is_some}
use Rattle.std.specs.List.{Contains, list_any, find as first_where}
use Rattle.std.proofs.lemmas.Bool.{or_cases}
use Rattle.std.proofs.lemmas.List.Elements.{Contains-append_left, Contains-append_right}
use Rattle.jc_facts.specs.declared.class_facts.ClassFacts.{ClassFacts}
use Rattle.jc_facts.specs.declared.class_facts.Member.{Member}
use Rattle.jc_facts.specs.declared.key.Key.{Key}
use Rattle.jc_facts.specs.Names.{Bytes, is_key, key_of}
use Rattle.jc_facts.specs.world.World.{World, classes, find_class, own_field_of, own_method_of, size}
use Rattle.jc_facts.specs.world.Search.{of_class, descend}
use Rattle.jc_facts.specs.world.Hierarchy.{chain_step, of_super, chain, each, interfaces_step, with_interfaces, interfaces_of, superinterfaces}
use Rattle.jc_lemmas.proofs.Listed.{EachOf, here, there, none, cases, each_of, EachOf-append}
use Rattle.jc_facts.proofs.KeySets.{key-same}
use Rattle.jc_sound.specs.Findings.{declares_key}
use Rattle.jc_worlds.specs.Hierarchy.{above}
use Rattle.jc_facts.proofs.Hierarchy.{each-all}
use Rattle.jc_selection.proofs.Parts.{class_named-in}

-- ---- lists of candidates

-- what f gives of each of the list, in a row
abbrev pub spread : {A B : Type 0} → (A → List B) → List A → List B
spread f [] = []
spread f (x ∷ xs) = f x ++ spread f xs

pub spread_has : {A B : Type 0} (f : A → List B) (xs : List A) (x : A) (b : B) → Contains xs x → Contains (f x) b → Contains (spread f xs) b
spread_has f [] x b c d = absurd (none x c)
spread_has {A} f (y ∷ ys) x b c d = go (cases y ys x c) (λ m. spread_has f ys x b m d)
  where
    go : (y ≡ x) ⊎ Contains ys x → (Contains ys x → Contains (spread f ys) b) → Contains (f y ++ spread f ys) b
    go (inl is) r = Contains-append_left (f y) (spread f ys) b (subst (λ (z : A). Contains (f z) b) (sym is) d)
    go (inr m) r = Contains-append_right (f y) (spread f ys) b (r m)

-- ---- keys

key_listed : (k : Key) (ms : List Member) → is_some (first_where (is_key k) ms) ≡ true → Contains (map key_of ms) k
key_listed k [] e = absurd (cc)
key_listed k (m ∷ ms) e = go (is_key k m) refl e (key_listed k ms)
  where
    go : (b : Bool) → is_key k m ≡ b → is_some (cond b (Some m) (first_where (is_key k) ms)) ≡ true → (is_some (first_where (is_key k) ms) ≡ true → Contains (map key_of ms) k) → Contains (key_of m ∷ map key_of ms) k
    go true q e r = subst (Contains (key_of m ∷ map key_of ms)) (key-same k m q) (here (key_of m) (map key_of ms))
    go false q e r = there k (key_of m) (map key_of ms) (r e)

-- the keys of all members of the class
abbrev pub own_keys : ClassFacts → List Key
own_keys c = map key_of c.fields ++ map key_of c.methods

abbrev pub all_keys : List ClassFacts → List Key
all_keys cs = spread own_keys cs

own_key : (k : Key) (c : ClassFacts) → declares_key k c ≡ true → Contains (own_keys c) k
own_key k c e = go (or_cases (is_some (own_field_of c k)) (is_some (own_method_of c k)) e)
  where
    go : (is_some (own_field_of c k) ≡ true) ⊎ (is_some (own_method_of c k) ≡ true) → Contains (own_keys c) k
    go (inl f) = Contains-append_left (map key_of c.fields) (map key_of c.methods) k (key_listed k c.fields f)
    go (inr m) = Contains-append_right (map key_of c.fields) (map key_of c.methods) k (key_listed k c.methods m)

-- the key that one of the classes declares is among their keys
pub class_key : (k : Key) (cs : List ClassFacts) (c : ClassFacts) → Contains cs c → declares_key k c ≡ true → Contains (all_keys cs) k
class_key k cs c m e = spread_has own_keys cs c k m (own_key k c e)

pub some_key : (k : Key) (cs xs : List ClassFacts) → EachOf (Contains cs) xs → list_any (declares_key k) xs ≡ true → Contains (all_keys cs) k
some_key k cs [] h e = absurd (cc)
some_key k cs (x ∷ xs) h e = go (or_cases (declares_key k x) (list_any (declares_key k) xs) e) (some_key k cs xs h.1)
  where
    go : (declares_key k x ≡ true) ⊎ (list_any (declares_key k) xs ≡ true) → (list_any (declares_key k) xs ≡ true → Contains (all_keys cs) k) → Contains (all_keys cs) k
    go (inl d) r = class_key k cs x h.0 d
    go (inr d) r = r d

-- ---- the classes of a world

module _ (W : World) where
  pub found_in_world : (x : Bytes) (c : ClassFacts) → find_class W x ≡ Some c → Contains (classes W) c
  unfolding find_class
  found_in_world x c e = class_named-in (classes W) x c e

  chain_in : (n : ℕ) (x : Bytes) → EachOf (Contains (classes W)) (descend W [] [] chain_step n x)
  unfolding descend chain_step
  chain_in zero x = go (find_class W x)
    where
      go : (o : Option ClassFacts) → EachOf (Contains (classes W)) (of_class [] (λ c. []) o)
      go None = tt
      go (Some c) = tt
  chain_in (suc n) x = go (find_class W x) refl (chain_in n)
    where
      up : ((y : Bytes) → EachOf (Contains (classes W)) (descend W [] [] chain_step n y)) → (s : Option Bytes) → EachOf (Contains (classes W)) (of_super (descend W [] [] chain_step n) s)
      up r None = tt
      up r (Some y) = r y

      go : (o : Option ClassFacts) → find_class W x ≡ o → ((y : Bytes) → EachOf (Contains (classes W)) (descend W [] [] chain_step n y)) → EachOf (Contains (classes W)) (of_class [] (λ c. chain_step (descend W [] [] chain_step n) c) o)
      go None e r = tt
      go (Some c) e r = (found_in_world x c e, up r c.superclass)

  interfaces_in : (n : ℕ) (x : Bytes) → EachOf (Contains (classes W)) (descend W [] [] interfaces_step n x)
  unfolding descend interfaces_step
  interfaces_in zero x = go (find_class W x)
    where
      go : (o : Option ClassFacts) → EachOf (Contains (classes W)) (of_class [] (λ c. []) o)
      go None = tt
      go (Some c) = tt
  interfaces_in (suc n) x = go (find_class W x) refl (interfaces_in n)
    where
      go : (o : Option ClassFacts) → find_class W x ≡ o → ((y : Bytes) → EachOf (Contains (classes W)) (descend W [] [] interfaces_step n y))
          → EachOf (Contains (classes W)) (of_class [] (λ c. interfaces_step (descend W [] [] interfaces_step n) c) o)
      go None e r = tt
      go (Some c) e r = (found_in_world x c e, each-all (Contains (classes W)) (descend W [] [] interfaces_step n) c.interfaces (each_of _ r c.interfaces))

  all_interfaces_in : (cs : List ClassFacts) → EachOf (Contains (classes W)) (interfaces_of W cs)
  unfolding interfaces_of with_interfaces
  all_interfaces_in [] = tt
  all_interfaces_in (c ∷ cs) =
      EachOf-append (Contains (classes W)) (each (with_interfaces W) c.interfaces) (interfaces_of W cs)
      (each-all (Contains (classes W)) (with_interfaces W) c.interfaces (each_of _ (λ y. interfaces_in (size W) y) c.interfaces))
      (all_interfaces_in cs)

  pub chain_all : (x : Bytes) → EachOf (Contains (classes W)) (chain W x)
  unfolding chain
  chain_all x = chain_in (size W) x

  pub with_all : (x : Bytes) → EachOf (Contains (classes W)) (with_interfaces W x)
  unfolding with_interfaces
  with_all x = interfaces_in (size W) x

  pub super_all : (x : Bytes) → EachOf (Contains (classes W)) (superinterfaces W x)
  unfolding superinterfaces
  super_all x = all_interfaces_in (chain W x)

  -- who stands above a class is one of them
  pub above_in : (x : Bytes) → EachOf (Contains (classes W)) (above W x)
  unfolding chain superinterfaces
  above_in x = EachOf-append (Contains (classes W)) (chain W x) (superinterfaces W x) (chain_in (size W) x) (all_interfaces_in (chain W x))
