-- Clients with names that the side does not use change nothing of the side's classes.
use Rattle.std.proofs.Common.{◌≡◌, ◌≤◌, List, [], ◌++◌, refl, sym, ◌∙◌, Some, None, arith, length-append}
use Rattle.jc_facts.specs.declared.class_facts.ClassFacts.{ClassFacts}
use Rattle.jc_facts.specs.declared.key.Key.{Key}
use Rattle.jc_facts.specs.Names.{Bytes, object_name}
use Rattle.jc_facts.specs.world.World.{World, find_class, class_named, size, with_clients}
use Rattle.jc_facts.specs.world.Search.{supers}
use Rattle.jc_facts.specs.world.Hierarchy.{chain, with_interfaces, superinterfaces}
use Rattle.jc_facts.specs.world.Loading.{load_fault}
use Rattle.jc_facts.specs.world.Lookup.{field_found, method_choices, superinterface_choices, interface_choices}
use Rattle.jc_lemmas.proofs.Listed.{EachOf}
use Rattle.jc_worlds.proofs.Agreement.{chain-agree, field_found-agree, with_interfaces-agree, superinterfaces-agree, superinterface_choices-agree, method_choices-agree, interface_choices-agree}
use Rattle.jc_worlds.proofs.Agree.{Agree, load_fault-agree}
use Rattle.jc_facts.proofs.World.{class_named-front}

module _ (W : World) (clients : List ClassFacts) (bare : W.clients ≡ []) where
  abbrev V : World
  V = with_clients W clients

  -- a name that no client has
  abbrev pub IsLibrary : Bytes → Type 0
  IsLibrary x = class_named clients x ≡ None

  pub find-library : (x : Bytes) → IsLibrary x → find_class W x ≡ find_class V x
  unfolding find_class class_named
  find-library x h =
      class_named-front (W.platform ++ W.release) W.clients x (rw (bare, class_named) refl)
      ∙ sym (class_named-front (W.platform ++ W.release) clients x h)

  pub size-grows : size W ≤ size V
  unfolding size
  size-grows = rw bare (omega (arith, length-append (W.platform ++ W.release) [], length-append (W.platform ++ W.release) clients))

  module _ (unused : (x : Bytes) (c : ClassFacts) → find_class W x ≡ Some c → EachOf IsLibrary (supers c)) where
    pub sides : Agree W V IsLibrary
    sides = record { same = find-library; is_closed = λ x c s e. unused x c e }

    -- the load fault of a class of the side: clients change no module
    pub load_fault-side : (x : Bytes) → IsLibrary x → load_fault W x ≡ load_fault V x
    load_fault-side x s = load_fault-agree W V IsLibrary sides (λ x y s t. record { seen = refl; together = refl }) size-grows x s

    pub loads-side : (x : Bytes) → IsLibrary x → load_fault W x ≡ None → load_fault V x ≡ None
    loads-side x s h = sym (load_fault-side x s) ∙ h

    pub chain-side : (x : Bytes) → IsLibrary x → load_fault W x ≡ None → chain W x ≡ chain V x
    chain-side x s h = chain-agree W V IsLibrary sides loads-side x s h

    pub field_found-side : (x : Bytes) (k : Key) → IsLibrary x → load_fault W x ≡ None → field_found W x k ≡ field_found V x k
    field_found-side x k s h = field_found-agree W V IsLibrary sides loads-side x k s h

    pub superinterfaces-side : (x : Bytes) → IsLibrary x → load_fault W x ≡ None → superinterfaces W x ≡ superinterfaces V x
    superinterfaces-side x s h = superinterfaces-agree W V IsLibrary sides loads-side x s h

    pub with_interfaces-side : (x : Bytes) → IsLibrary x → load_fault W x ≡ None → with_interfaces W x ≡ with_interfaces V x
    with_interfaces-side x s h = with_interfaces-agree W V IsLibrary sides loads-side x s h

    pub superinterface_choices-side : (x : Bytes) (k : Key) → IsLibrary x → load_fault W x ≡ None → superinterface_choices W x k ≡ superinterface_choices V x k
    superinterface_choices-side x k s h = superinterface_choices-agree W V IsLibrary sides loads-side x k s h

    pub method_choices-side : (x : Bytes) (k : Key) → IsLibrary x → load_fault W x ≡ None → method_choices W x k ≡ method_choices V x k
    method_choices-side x k s h = method_choices-agree W V IsLibrary sides loads-side x k s h

    pub interface_choices-side : (x : Bytes) (k : Key) → IsLibrary x → IsLibrary object_name → load_fault W x ≡ None → interface_choices W x k ≡ interface_choices V x k
    interface_choices-side x k s o h = interface_choices-agree W V IsLibrary sides loads-side x k s (find-library object_name o) h
