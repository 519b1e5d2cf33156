-- Planned clients that name interfaces of the side.
use Rattle.std.proofs.Common.{◌≡◌, Bool, true, false, List, ◌∷◌, ◌++◌, refl, sym, ◌∙◌, ap, subst, Some, None, ◌&&◌, ◌⊎◌, inl, inr}
use Rattle.std.proofs.lemmas.Bool.{and_parts, both_ways, or_cases}
use Rattle.std.specs.List.{list_any}
use Rattle.jc_facts.specs.declared.class_facts.ClassFacts.{ClassFacts}
use Rattle.jc_facts.specs.Names.{Bytes, is_name_among}
use Rattle.jc_facts.specs.Flags.{interface_flag}
use Rattle.jc_facts.specs.world.World.{World, find_class, class_named, with_clients, is_client}
use Rattle.jc_facts.specs.world.Hierarchy.{chain, superinterfaces, each, with_interfaces}
use Rattle.jc_facts.specs.world.Loading.{load_fault}
use Rattle.jc_promises.specs.client.Meets.{may_name}
use Rattle.jc_lemmas.proofs.Listed.{EachOf, EachOf-map, EachOf-append, any_none}
use Rattle.jc_worlds.proofs.Above.{with_interfaces-each}
use Rattle.jc_facts.proofs.Hierarchy.{each-all}
use Rattle.jc_worlds.proofs.Sides.{with_interfaces-side}
use Rattle.jc_worlds.proofs.Clients.{Fits}
use Rattle.jc_worlds.proofs.Locality.{each-same}
use Rattle.jc_sound.proofs.Reach.{declared_library}
use Rattle.jc_complete.proofs.PlanMeets.{no_client, chain_apart, interfaces_apart, chain_below, interfaces_below}

-- an interface of the side that loads
pub record LibInterface (W : World) (i : Bytes) : Type 0 where
  pub class : ClassFacts
  pub is_there : find_class W i ≡ Some class
  pub loaded : load_fault W i ≡ None
  pub interface : interface_flag class.flags ≡ true

module _ (W : World) (cs : List ClassFacts) (f : Fits W cs) where
  abbrev V : World
  V = with_clients W cs

  pub lib_with : (i : Bytes) → LibInterface W i → with_interfaces V i ≡ with_interfaces W i
  lib_with i u = sym (with_interfaces-side W cs f.bare f.unused i (declared_library W cs f i u.class u.is_there) u.loaded)

  pub with_apart : (i : Bytes) → LibInterface W i → EachOf (λ c. is_client V c.name ≡ false) (with_interfaces W i)
  with_apart i u = with_interfaces-each W (λ c. is_client V c.name ≡ false) (λ x c e l q. no_client W cs f x c e) i u.loaded u.class u.is_there u.interface

  pub each_with : (is : List Bytes) → EachOf (LibInterface W) is → each (with_interfaces V) is ≡ each (with_interfaces W) is
  each_with is h = each-same (with_interfaces V) (with_interfaces W) is (EachOf-map lib_with is h)

  module _ (x : Bytes) (c : ClassFacts) (s : Bytes) (d : ClassFacts) (k : class_named cs x ≡ Some c) (q : c.superclass ≡ Some s) (t : find_class W s ≡ Some d) (h : load_fault W s ≡ None) (l : load_fault V x ≡ None) (libs : EachOf (LibInterface W) c.interfaces) where
    -- all above it
    pub all_interfaces : superinterfaces V x ≡ each (with_interfaces W) c.interfaces ++ superinterfaces W s
    all_interfaces = interfaces_below W cs f x c s d k q t h l ∙ ap (λ cs. cs ++ superinterfaces W s) (each_with c.interfaces libs)

    -- it alone may name an interface
    pub names_only : (i : Bytes) → may_name V x i ≡ true → is_name_among c.interfaces i ≡ true
    names_only i m = go (or_cases (test c) (list_any test (chain W s ++ (each (with_interfaces W) c.interfaces ++ superinterfaces W s))) (subst (λ cs. list_any test cs ≡ true) (ap (λ cs. cs ++ superinterfaces V x) (chain_below W cs f x c s d k q t h l) ∙ ap (λ is. (c ∷ chain W s) ++ is) all_interfaces) m))
      where
        test : ClassFacts → Bool
        test c = is_client V c.name && is_name_among c.interfaces i

        apart : (c : ClassFacts) → is_client V c.name ≡ false → test c ≡ false
        apart c e = rw e refl

        rest : list_any test (chain W s ++ (each (with_interfaces W) c.interfaces ++ superinterfaces W s)) ≡ false
        rest = any_none test (chain W s ++ (each (with_interfaces W) c.interfaces ++ superinterfaces W s))
            (EachOf-append (λ c. test c ≡ false) (chain W s) (each (with_interfaces W) c.interfaces ++ superinterfaces W s) (EachOf-map apart (chain W s) (chain_apart W cs f s h))
            (EachOf-append (λ c. test c ≡ false) (each (with_interfaces W) c.interfaces) (superinterfaces W s)
            (EachOf-map apart (each (with_interfaces W) c.interfaces) (each-all (λ c. is_client V c.name ≡ false) (with_interfaces W) c.interfaces (EachOf-map with_apart c.interfaces libs)))
            (EachOf-map apart (superinterfaces W s) (interfaces_apart W cs f s h))))

        go : (test c ≡ true) ⊎ (list_any test (chain W s ++ (each (with_interfaces W) c.interfaces ++ superinterfaces W s)) ≡ true) → is_name_among c.interfaces i ≡ true
        go (inl e) = (and_parts (is_client V c.name) (is_name_among c.interfaces i) e).1
        go (inr e) = absurd (both_ways (list_any test (chain W s ++ (each (with_interfaces W) c.interfaces ++ superinterfaces W s))) rest e)
