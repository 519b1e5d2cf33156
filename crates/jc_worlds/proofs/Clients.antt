-- A search from a client goes over the clients above it, and leaves them at the names of library classes.
use Rattle.std.proofs.Common.{◌≡◌, ℕ, zero, suc, true, List, [], ◌++◌, refl, sym, ◌∙◌, subst, Option, Some, None}
use Rattle.jc_facts.specs.declared.class_facts.ClassFacts.{ClassFacts}
use Rattle.jc_facts.specs.declared.key.Key.{Key}
use Rattle.jc_facts.specs.Names.{Bytes}
use Rattle.jc_facts.specs.world.World.{World, find_class, class_named, size, with_clients}
use Rattle.jc_facts.specs.world.Search.{descend, supers}
use Rattle.jc_facts.specs.world.Hierarchy.{chain, chain_step}
use Rattle.jc_facts.specs.world.Loading.{load_fault, fault_at}
use Rattle.jc_facts.specs.world.Lookup.{field_found, field_step}
use Rattle.jc_worlds.specs.Walks.{over_clients}
use Rattle.jc_lemmas.proofs.Listed.{EachOf, EachOf-map}
use Rattle.jc_worlds.proofs.Descent.{IsLocal}
use Rattle.jc_worlds.proofs.Loaded.{loaded-level, loaded-parts, loads_from, unroll}
use Rattle.jc_worlds.proofs.Locality.{chain_step-local, field_step-local}
use Rattle.jc_worlds.proofs.Agree.{search-agree}
use Rattle.jc_worlds.proofs.Sides.{IsLibrary, sides, load_fault-side}
use Rattle.jc_worlds.proofs.Absent.{class_named-back, class_named-absent}
use Rattle.std.proofs.lemmas.Bool.{or_right}
use Rattle.jc_facts.specs.Flags.{public_flag}
use Rattle.jc_facts.specs.world.Access.{is_class_accessible}
use Rattle.jc_facts.specs.world.Modules.{OfClients, module_of, in_same_module, is_visible}
use Rattle.jc_facts.proofs.World.{class_named-name}
use Rattle.jc_worlds.proofs.VisibleFrom.{outside, accessible_from, visible-clients}

module _ {B : Type 0} (cs : List ClassFacts) (library : Bytes → B) (step : (Bytes → B) → ClassFacts → B) where
  pub over_clients-library : (n : ℕ) (x : Bytes) → class_named cs x ≡ None → over_clients cs library step (suc n) x ≡ library x
  unfolding over_clients
  over_clients-library n x e = rw (e, over_clients) refl

  over_clients-client : (n : ℕ) (x : Bytes) (c : ClassFacts) → class_named cs x ≡ Some c → over_clients cs library step (suc n) x ≡ step (over_clients cs library step n) c
  unfolding over_clients
  over_clients-client n x c e = rw (e, over_clients) refl

-- what the clients' names are for the side
pub record Fits (W : World) (clients : List ClassFacts) : Type 0 where
  pub bare : W.clients ≡ []
  -- none is declared by the side
  pub undeclared : (x : Bytes) (c : ClassFacts) → class_named clients x ≡ Some c → find_class W x ≡ None
  -- and none is named by a class of the side
  pub unused : (x : Bytes) (c : ClassFacts) → find_class W x ≡ Some c → EachOf (λ s. class_named clients s ≡ None) (supers c)

module _ (W : World) (clients : List ClassFacts) (fits : Fits W clients) where
  abbrev V : World
  V = with_clients W clients

  -- a client is in the module of the clients
  pub client_module : (x : Bytes) (c : ClassFacts) → class_named clients x ≡ Some c → module_of W x ≡ OfClients
  client_module x c e = outside W x (fits.undeclared x c e)

  pub own_module : (x : Bytes) (c : ClassFacts) → class_named clients x ≡ Some c → module_of W c.name ≡ OfClients
  own_module x c e = subst (λ z. module_of W z ≡ OfClients) (sym (class_named-name clients x c e)) (client_module x c e)

  -- so a public one is accessible from every class
  pub client_accessible : (x : Bytes) (c : ClassFacts) → class_named clients x ≡ Some c → public_flag c.flags ≡ true → (z : Bytes) → is_class_accessible W z c ≡ true
  client_accessible x c e p z =
      accessible_from W z c (or_right (in_same_module W z c.name) (is_visible W c.name) (visible-clients W c.name (own_module x c e))) p

  pub find-client : (x : Bytes) (c : ClassFacts) → class_named clients x ≡ Some c → find_class V x ≡ Some c
  unfolding find_class
  find-client x c e =
      let a : class_named (W.platform ++ W.release) x ≡ None = class_named-absent (W.platform ++ W.release) W.clients x (fits.undeclared x c e) in
      class_named-back (W.platform ++ W.release) clients x a ∙ e

  -- a search from a class that loads is the search over clients, with the side's own search at library names
  pub descend-clients : {B : Type 0} (missing deep : B) (step : (Bytes → B) → ClassFacts → B) → IsLocal step → (n : ℕ) (x : Bytes) → fault_at V n x ≡ None
      → descend V missing deep step (size V) x ≡ over_clients clients (descend W missing deep step (size W)) step n x
  descend-clients missing deep step local zero x h = absurd (let l = loaded-level V zero x h in cc)
  descend-clients {B} missing deep step local (suc n) x h = go (class_named clients x) refl (descend-clients missing deep step local n)
    where
      library : Bytes → B
      library = descend W missing deep step (size W)

      go : (o : Option ClassFacts) → class_named clients x ≡ o
          → ((y : Bytes) → fault_at V n y ≡ None → descend V missing deep step (size V) y ≡ over_clients clients (descend W missing deep step (size W)) step n y)
          → descend V missing deep step (size V) x ≡ over_clients clients (descend W missing deep step (size W)) step (suc n) x
      go None e r =
          let k : load_fault V x ≡ None = loads_from V (suc n) x h in
          let j : load_fault W x ≡ None = load_fault-side W clients fits.bare fits.unused x e ∙ k in
          sym (search-agree W V (IsLibrary W clients fits.bare) (sides W clients fits.bare fits.unused) missing deep step local x e j k)
          ∙ sym (over_clients-library clients library step n x e)
      go (Some c) e r =
          let k : load_fault V x ≡ None = loads_from V (suc n) x h in
          let f : find_class V x ≡ Some c = find-client x c e in
          let p = loaded-parts V n x c f h in
          unroll V missing deep step local x c k f
          ∙ local (descend V missing deep step (size V)) (over_clients clients library step n) c (EachOf-map r (supers c) p.0)
          ∙ sym (over_clients-client clients library step n x c e)

  -- the field found from a client: its own, what its interfaces give, clients' or the library's, and then what its superclass gives, at last the seat
  pub field_found-clients : (k : Key) (n : ℕ) (x : Bytes) → fault_at V n x ≡ None
      → field_found V x k ≡ over_clients clients (λ y. field_found W y k) (field_step k) n x
  unfolding field_found
  field_found-clients k n x h = descend-clients None None (field_step k) (field_step-local k) n x h

  -- the clients of the chain stand before the classes of the seat's chain
  pub chain-clients : (n : ℕ) (x : Bytes) → fault_at V n x ≡ None → chain V x ≡ over_clients clients (chain W) chain_step n x
  unfolding chain
  chain-clients n x h = descend-clients [] [] chain_step chain_step-local n x h
