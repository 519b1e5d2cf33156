-- Handles of clients, by what stands of the library alone.
--     openly_is      a library's class that is said to declare a method is accessible from a client exactly where clients can name it
--     handle_is      so the handle of an act named through a library's class is Ok exactly where the act is, and clients can name each class
--                    that declares what it may find
use Rattle.std.proofs.Common.{◌≡◌, ◌||◌, ◌&&◌, Bool, true, List, [], ◌∷◌, refl, sym, ◌∙◌, ap, None, Some, is_none}
use Rattle.std.specs.List.{list_all}
use Rattle.std.proofs.Math.Bool.{or-false}
use Rattle.jc_facts.specs.declared.act.Act.{Act}
use Rattle.jc_facts.specs.declared.class_facts.ClassFacts.{ClassFacts}
use Rattle.jc_facts.specs.declared.key.Key.{Key}
use Rattle.jc_facts.specs.Names.{Bytes, object_name}
use Rattle.jc_facts.specs.Flags.{public_flag}
use Rattle.jc_facts.specs.Options.{some_and}
use Rattle.jc_facts.specs.world.World.{World, find_class, class_named, with_clients, DeclaredMember}
use Rattle.jc_facts.specs.world.Modules.{is_visible, is_visible_from}
use Rattle.jc_facts.specs.world.Access.{is_class_accessible}
use Rattle.jc_facts.specs.world.Loading.{load_fault}
use Rattle.jc_facts.specs.client.Acts.{Form, FieldForm, MethodForm, InterfaceForm, form_of}
use Rattle.jc_promises.specs.client.Names.{is_free_name}
use Rattle.jc_facts.specs.client.Outcome.{outcome, may_find}
use Rattle.jc_lemmas.proofs.Listed.{EachOf}
use Rattle.jc_worlds.proofs.Clients.{Fits, client_module}
use Rattle.jc_worlds.proofs.Declared.{IsDeclared, method_choices-declared}
use Rattle.jc_worlds.proofs.Packages.{same_package_apart}
use Rattle.jc_worlds.proofs.Sides.{method_choices-side, interface_choices-side}
use Rattle.jc_worlds.proofs.VisibleFrom.{visible_from-client}
use Rattle.jc_sound.proofs.MethodLooked.{interface_choices-declared}
use Rattle.jc_complete.proofs.PlanLoads.{lib_find}
use Rattle.jc_calls.specs.Handles.{handle_item, handle_ok, declares_openly, is_referable, are_referable, is_said_of_named}
use Rattle.jc_calls.specs.References.{is_of_open, are_of_open}
use Rattle.jc_sound.proofs.ClientNames.{free_parts}

-- what an act on a method may find is declared by classes that are there
pub found_declared : (W : World) (f : Form) (t : Bytes) (k : Key) → (f ≡ FieldForm → ⊥) → load_fault W t ≡ None → EachOf (IsDeclared W k) (may_find W f t k)
found_declared W FieldForm t k n h = absurd (n refl)
found_declared W MethodForm t k n h = method_choices-declared W t k h
found_declared W InterfaceForm t k n h = interface_choices-declared W t k h

module _ (W : World) (cs : List ClassFacts) (fits : Fits W cs) where
  -- and is the same in a world of clients, from a library's class
  pub found_side : (f : Form) (t : Bytes) (k : Key) → (f ≡ FieldForm → ⊥) → class_named cs t ≡ None → class_named cs object_name ≡ None → load_fault W t ≡ None → may_find W f t k ≡ may_find (with_clients W cs) f t k
  found_side FieldForm t k n l r h = absurd (n refl)
  found_side MethodForm t k n l r h = method_choices-side W cs fits.bare fits.unused t k l h
  found_side InterfaceForm t k n l r h = interface_choices-side W cs fits.bare fits.unused t k l r h

  -- and so is whether it is all public and no bridge
  pub referable_side : (what : Act) (t : Bytes) (k : Key) → (form_of what ≡ FieldForm → ⊥) → class_named cs t ≡ None → class_named cs object_name ≡ None → load_fault W t ≡ None → are_referable W what t k ≡ are_referable (with_clients W cs) what t k
  referable_side what t k n l r h = ap (list_all is_referable) (found_side (form_of what) t k n l r h)

  module _ (x : Bytes) (c : ClassFacts) (named : class_named cs x ≡ Some c) (free : is_free_name W x ≡ true) where
    pub accessible_is : (y : Bytes) (d : ClassFacts) → find_class W y ≡ Some d → is_class_accessible (with_clients W cs) x d ≡ (is_visible W d.name && public_flag d.flags)
    accessible_is y d f =
        ap (λ b. (is_visible_from W x d.name && public_flag d.flags) || b) (same_package_apart W x y d (free_parts W x free).apart f)
        ∙ or-false (is_visible_from W x d.name && public_flag d.flags)
        ∙ ap (λ b. b && public_flag d.flags) (visible_from-client W x d.name (client_module W cs fits x c named))

    pub openly_is : (what : Act) (m : DeclaredMember) (d : ClassFacts) → find_class W m.owner ≡ Some d → declares_openly (with_clients W cs) x what m ≡ is_of_open W what m
    openly_is what m d f =
        ap (some_and (λ (e : ClassFacts). is_said_of_named what e || is_class_accessible (with_clients W cs) x e)) (lib_find W cs fits m.owner d f)
        ∙ ap (λ b. is_said_of_named what d || b) (accessible_is m.owner d f)
        ∙ sym (ap (some_and (λ (e : ClassFacts). is_said_of_named what e || (is_visible W e.name && public_flag e.flags))) f)

    pub all_openly : (what : Act) (k : Key) (ms : List DeclaredMember) → EachOf (IsDeclared W k) ms → list_all (declares_openly (with_clients W cs) x what) ms ≡ list_all (is_of_open W what) ms
    all_openly what k [] h = refl
    all_openly what k (m ∷ ms) h =
        ap (λ b. b && list_all (declares_openly (with_clients W cs) x what) ms) (openly_is what m h.0.class h.0.is_there)
        ∙ ap (λ b. is_of_open W what m && b) (all_openly what k ms h.1)

    pub handle_is : (what : Act) (t : Bytes) (k : Key) → (form_of what ≡ FieldForm → ⊥) → class_named cs t ≡ None → class_named cs object_name ≡ None → load_fault W t ≡ None
        → handle_ok (with_clients W cs) x what t k ≡ (is_none (outcome (with_clients W cs) x (handle_item what t k)) && are_of_open W what t k)
    unfolding handle_ok
    handle_is what t k n l r h =
        ap (λ (b : Bool). is_none (outcome (with_clients W cs) x (handle_item what t k)) && b)
        (ap (list_all (declares_openly (with_clients W cs) x what)) (sym (found_side (form_of what) t k n l r h)) ∙ all_openly what k (may_find W (form_of what) t k) (found_declared W (form_of what) t k n h))
