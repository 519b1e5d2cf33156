-- Worlds that find the same classes of some names link alike what asks for no others.
use Rattle.std.proofs.Common.{◌≡◌, ℕ, zero, suc, Bool, true, false, cond, ◌&&◌, refl, sym, ◌∙◌, ap, Option, Some, None, not}
use Rattle.std.proofs.lemmas.Bool.{and_parts, both_ways}
use Rattle.jc_facts.specs.declared.act.Act.{Act}
use Rattle.jc_facts.specs.declared.class_facts.ClassFacts.{ClassFacts}
use Rattle.jc_facts.specs.declared.client.Item.{Item}
use Rattle.jc_facts.specs.declared.client.Item.TheVariants as item
use Rattle.jc_facts.specs.declared.client.Place.{Place}
use Rattle.jc_facts.specs.declared.key.Key.{Key}
use Rattle.jc_facts.specs.declared.link_error.LinkError.{LinkError}
use Rattle.jc_facts.specs.declared.link_error.LinkError.TheVariants.{NoSuchFieldError, NoSuchMethodError, IllegalAccessError, VerifyError}
use Rattle.jc_facts.specs.Names.{Bytes, same, package_name, in_same_package, is_name_among, object_name}
use Rattle.jc_facts.specs.Flags.{interface_flag}
use Rattle.jc_facts.specs.Options.{or_else, and_then, some_and}
use Rattle.jc_facts.specs.world.Types.{Element, Primitive, Class, TypeText, type_read, is_array_text}
use Rattle.jc_facts.specs.world.World.{World, find_class, DeclaredMember}
use Rattle.jc_facts.specs.world.Hierarchy.{in_chain}
use Rattle.jc_facts.specs.world.Access.{is_class_accessible, host_if, host_by, host_of, named_host, are_nestmates, is_member_accessible}
use Rattle.jc_facts.specs.world.Loading.{load_fault, fault_where}
use Rattle.jc_facts.specs.world.Lookup.{field_found, method_choices, interface_choices}
use Rattle.jc_facts.specs.world.Assignment.{is_assignable, is_interface_of, is_element_assignable, assign_to, assign_types, passes_protected_check}
use Rattle.jc_facts.specs.client.Acts.{Form, FieldForm, MethodForm, InterfaceForm, form_of}
use Rattle.jc_facts.specs.client.Outcome.{class_fault, element_fault, type_fault, class_step, found_or, look_up, is_direct_super, receiver_ok, assignment_ok, use_fault, init_key, init_fault, instantiation_fault, outcome}
use Rattle.jc_facts.proofs.Same.{same_itself}
use Rattle.jc_facts.proofs.World.{find-name}
use Rattle.jc_worlds.specs.Agreement.{AgreeOn, ModulesAgreeOn, LooksTheSame}
use Rattle.jc_worlds.proofs.AgreementLaw.{worlds_agree}
use Rattle.jc_worlds.proofs.Alike.{first_of-same, found_or-same, step_loads}
use Rattle.jc_worlds.proofs.Packages.{same_package_is, same_nest-package}
use Rattle.jc_worlds.proofs.VisibleFrom.{same_class_access}
use Rattle.jc_platform.specs.Enough.{element_among, type_among, text_among, receiver_among, item_among}

-- what comes after the class step counts only where that is Ok and the text is no array's
settled : (o : Option LinkError) (b : Bool) (a p q : Option LinkError) → (o ≡ None → b ≡ false → p ≡ q) → or_else o (cond b a p) ≡ or_else o (cond b a q)
unfolding or_else
settled None false a p q h = h refl refl
settled None true a p q h = refl
settled (Some e) b a p q h = refl

-- a text that doesn't begin as an array names a class
pub text_named : (S : Bytes → Bool) (t : Bytes) → is_array_text t ≡ false → text_among S t ≡ S t
unfolding text_among type_read
text_named S t a = rw a refl

-- a class of another package is no nest mate
no_nest : (U : World) (x y : Bytes) → in_same_package x y ≡ false → are_nestmates U x y ≡ false
no_nest U x y e = go (are_nestmates U x y) refl
  where
    go : (b : Bool) → are_nestmates U x y ≡ b → b ≡ false
    go true q = absurd (let z : in_same_package x y ≡ true = rw (same_nest-package U x y q) (same_itself (package_name y)) in both_ways (in_same_package x y) e z)
    go false q = refl

-- a host of another package doesn't count
no_host : (y h : Bytes) (o : Option ClassFacts) → in_same_package y h ≡ false → host_if y h o ≡ y
no_host y h None e = refl
no_host y h (Some d) e = ap (λ (b : Bool). cond (b && is_name_among d.nest_members y) h y) e

module _ (W V : World) (S : Bytes → Bool) (agree : AgreeOn W V S) (modules : ModulesAgreeOn W V S) (root : S object_name ≡ true) where
  pub same_fault : (x : Bytes) → S x ≡ true → load_fault W x ≡ load_fault V x
  same_fault x s = (worlds_agree W V S agree x s).0 modules

  same_chain : (x : Bytes) → S x ≡ true → (y : Bytes) → in_chain W x y ≡ in_chain V x y
  same_chain x s = (worlds_agree W V S agree x s).1

  same_lookup : (x : Bytes) → S x ≡ true → load_fault W x ≡ None → LooksTheSame W V x
  same_lookup x s h = (worlds_agree W V S agree x s).2 h (sym (same_fault x s) ∙ h)

  same_kind : (x : Bytes) → S x ≡ true → is_interface_of W x ≡ is_interface_of V x
  same_kind x s = ap (some_and (λ (c : ClassFacts). interface_flag c.flags)) (agree.same x s)

  -- ---- assignment

  same_assign_element : (s t : Element) → element_among S s ≡ true → element_among S t ≡ true → is_element_assignable W s t ≡ is_element_assignable V s t
  same_assign_element (Primitive x) (Primitive y) h k = refl
  same_assign_element (Primitive x) (Class t) h k = refl
  same_assign_element (Class s) (Primitive y) h k = refl
  same_assign_element (Class s) (Class t) h k = rw (same_kind t k, same_chain s h t) refl

  same_assign_to : (d : ℕ) (s : Element) (e : ℕ) (t : Element) → element_among S s ≡ true → element_among S t ≡ true → assign_to W d s e t ≡ assign_to V d s e t
  unfolding assign_to
  same_assign_to zero s zero t h k = same_assign_element s t h k
  same_assign_to zero s (suc e) t h k = refl
  same_assign_to (suc d) s zero t h k = refl
  same_assign_to (suc d) s (suc e) t h k = same_assign_to d s e t h k

  same_assign_types : (a b : Option TypeText) → type_among S a ≡ true → type_among S b ≡ true → assign_types W a b ≡ assign_types V a b
  same_assign_types None b h k = refl
  same_assign_types (Some a) None h k = refl
  same_assign_types (Some a) (Some b) h k = same_assign_to a.dims a.element b.dims b.element h k

  same_assign : (s t : Bytes) → text_among S s ≡ true → text_among S t ≡ true → is_assignable W s t ≡ is_assignable V s t
  unfolding is_assignable text_among
  same_assign s t h k = same_assign_types (type_read s) (type_read t) h k

  -- ---- lookup

  same_look_up : (form : Form) (c : Bytes) (k : Key) (f g : DeclaredMember → Option LinkError) → S c ≡ true → load_fault W c ≡ None → ((m : DeclaredMember) → f m ≡ g m) → look_up W form c k f ≡ look_up V form c k g
  unfolding look_up
  same_look_up FieldForm c k f g s h e = found_or-same NoSuchFieldError (field_found W c k) f g e ∙ ap (λ o. found_or NoSuchFieldError o g) ((same_lookup c s h).field k)
  same_look_up MethodForm c k f g s h e =
      rw (same_kind c s, (same_lookup c s h).method k, first_of-same NoSuchMethodError (method_choices V c k) f g e) refl
  same_look_up InterfaceForm c k f g s h e =
      rw (same_kind c s, (same_lookup c s h).interface k (agree.same object_name root), first_of-same NoSuchMethodError (interface_choices V c k) f g e) refl

  same_init : (c d : Bytes) (f g : DeclaredMember → Option LinkError) → S c ≡ true → load_fault W c ≡ None → ((m : DeclaredMember) → f m ≡ g m) → init_fault W c d f ≡ init_fault V c d g
  unfolding init_fault
  same_init c d f g s h e = same_look_up MethodForm c (init_key d) _ _ s h (λ m. ap (λ o. cond (same m.owner c) o (Some NoSuchMethodError)) (e m))

  -- ---- from a class of one of the names, near which the worlds have the same classes
  module _ (x : Bytes) (named : S x ≡ true) (text : text_among S x ≡ true) (near : (y : Bytes) → package_name y ≡ package_name x → find_class W y ≡ find_class V y) where
    -- ---- classes

    same_class : (c : Bytes) → S c ≡ true → class_fault W x c ≡ class_fault V x c
    unfolding class_fault and_then
    same_class c s =
        ap (λ o. or_else o (and_then (access W) (find_class W c))) (same_fault c s)
        ∙ ap (λ o. or_else (load_fault V c) (and_then (access W) o)) (agree.same c s)
        ∙ ap (or_else (load_fault V c)) (by (find_class V c) refl)
      where
        access : World → ClassFacts → Option LinkError
        access U d = fault_where (not (is_class_accessible U x d)) IllegalAccessError

        by : (o : Option ClassFacts) → find_class V c ≡ o → and_then (access W) o ≡ and_then (access V) o
        by None e = refl
        by (Some d) e =
            let t : S d.name ≡ true = ap S (find-name V c d e) ∙ s in
            ap (λ b. fault_where (not b) IllegalAccessError) (same_class_access W V x d (modules x d.name named t))

    same_element : (e : Element) → element_among S e ≡ true → element_fault W x e ≡ element_fault V x e
    same_element (Primitive p) h = refl
    same_element (Class c) h = same_class c h

    same_type : (o : Option TypeText) → type_among S o ≡ true → type_fault W x o ≡ type_fault V x o
    same_type None h = refl
    same_type (Some t) h = same_element t.element h

    same_step : (t : Bytes) → text_among S t ≡ true → class_step W x t ≡ class_step V x t
    unfolding class_step text_among
    same_step t h = same_type (type_read t) h

    -- ---- access

    same_named_host : (y : Bytes) → package_name y ≡ package_name x → (o : Option Bytes) → named_host W y o ≡ named_host V y o
    same_named_host y p None = refl
    same_named_host y p (Some h) = go (in_same_package y h) refl
      where
        go : (b : Bool) → in_same_package y h ≡ b → host_if y h (find_class W h) ≡ host_if y h (find_class V h)
        go true e = ap (host_if y h) (near h (sym (same_package_is y h e) ∙ p))
        go false e = no_host y h (find_class W h) e ∙ sym (no_host y h (find_class V h) e)

    same_host_by : (y : Bytes) → package_name y ≡ package_name x → (o : Option ClassFacts) → host_by W y o ≡ host_by V y o
    same_host_by y p None = refl
    same_host_by y p (Some c) = same_named_host y p c.nest_host

    same_host : (y : Bytes) → package_name y ≡ package_name x → host_of W y ≡ host_of V y
    unfolding host_of
    same_host y p = ap (host_by W y) (near y p) ∙ same_host_by y p (find_class V y)

    same_nest : (y : Bytes) → are_nestmates W x y ≡ are_nestmates V x y
    same_nest y = go (in_same_package x y) refl
      where
        go : (b : Bool) → in_same_package x y ≡ b → are_nestmates W x y ≡ are_nestmates V x y
        go true e = ap (λ h. same h (host_of W y)) (same_host x refl) ∙ ap (same (host_of V x)) (same_host y (sym (same_package_is x y e)))
        go false e = no_nest W x y e ∙ sym (no_nest V x y e)

    same_access : (n : Bytes) (m : DeclaredMember) → S n ≡ true → is_member_accessible W x n m ≡ is_member_accessible V x n m
    unfolding is_member_accessible
    same_access n m s = rw (same_chain x named m.owner, same_chain x named n, same_chain n s x, same_nest m.owner) refl

    same_protected : (n : Bytes) (m : DeclaredMember) (s : Bytes) → text_among S s ≡ true → passes_protected_check W x n m s ≡ passes_protected_check V x n m s
    unfolding passes_protected_check
    same_protected n m s h = rw (same_chain x named n, same_assign s x h text) refl

    -- ---- uses

    same_direct : (c : Bytes) → is_direct_super W x c ≡ is_direct_super V x c
    unfolding is_direct_super
    same_direct c = rw (same_chain x named c, agree.same x named) refl

    same_receiver : (act : Act) (c : Bytes) (m : DeclaredMember) (r : Option Bytes) → text_among S c ≡ true → receiver_among S r ≡ true → receiver_ok W x act c m r ≡ receiver_ok V x act c m r
    unfolding receiver_ok
    same_receiver act c m None t h = refl
    same_receiver act c m (Some s) t h = rw (same_assign s c h t, same_protected c m s h, same_assign s x h text) refl

    same_use : (act : Act) (c : Bytes) (r : Option Bytes) (place : Place) → S c ≡ true → text_among S c ≡ true → receiver_among S r ≡ true
        → (m : DeclaredMember) → use_fault W x act c r place m ≡ use_fault V x act c r place m
    unfolding use_fault assignment_ok
    same_use act c r place s t h m = rw (same_access c m s, same_direct c, same_receiver act c m r t h) refl

    -- ---- items

    -- what a class passes after its step
    after_class : (t : Bytes) (a p q : Option LinkError) → text_among S t ≡ true → (S t ≡ true → load_fault W t ≡ None → p ≡ q)
        → or_else (class_step W x t) (cond (is_array_text t) a p) ≡ or_else (class_step V x t) (cond (is_array_text t) a q)
    after_class t a p q h later =
        settled (class_step W x t) (is_array_text t) a p q (λ n b. later (sym (text_named S t b) ∙ h) (step_loads W x t b n))
        ∙ ap (λ o. or_else o (cond (is_array_text t) a q)) (same_step t h)

    new_use : World → Bytes → DeclaredMember → Option LinkError
    new_use U t m = or_else (fault_where (not (is_member_accessible U x t m)) IllegalAccessError) (fault_where (not (passes_protected_check U x t m t)) VerifyError)

    init_use : World → Bytes → DeclaredMember → Option LinkError
    init_use U t m = fault_where (not (is_member_accessible U x t m)) IllegalAccessError

    same_new : (t d : Bytes) → text_among S t ≡ true → S t ≡ true → load_fault W t ≡ None
        → or_else (instantiation_fault W t) (init_fault W t d (new_use W t)) ≡ or_else (instantiation_fault V t) (init_fault V t d (new_use V t))
    unfolding new_use
    same_new t d h s l =
        rw (same_init t d (new_use W t) (new_use V t) s l (λ m. rw (same_access t m s, same_protected t m t h) refl), agree.same t s) refl

    same_init_use : (t d : Bytes) → S t ≡ true → load_fault W t ≡ None → init_fault W t d (init_use W t) ≡ init_fault V t d (init_use V t)
    unfolding init_use
    same_init_use t d s l = same_init t d (init_use W t) (init_use V t) s l (λ m. rw (same_access t m s) refl)

    pub same_outcome : (i : Item) → item_among S i ≡ true → outcome W x i ≡ outcome V x i
    unfolding outcome new_use init_use
    same_outcome (item.Class t) h = same_step t h
    same_outcome (item.New t d) h = after_class t _ _ _ h (same_new t d h)
    same_outcome (item.Init t d) h = after_class t _ _ _ h (same_init_use t d)
    same_outcome (item.Access act t k r place) h =
        let both = and_parts (text_among S t) (receiver_among S r) h in
        after_class t _ _ _ both.0 (λ s l. same_look_up (form_of act) t k (use_fault W x act t r place) (use_fault V x act t r place) s l (same_use act t r place s both.0 both.1))
    same_outcome (item.Assign s t) h =
        let both = and_parts (text_among S s) (text_among S t) h in
        rw (same_assign s t both.0 both.1) refl
