-- Where no finding stands, what clients name and assign with the old release they can with the new one.
use Rattle.std.proofs.Common.{◌≡◌, ℕ, zero, suc, Bool, true, false, List, [], ◌∷◌, refl, sym, ◌∙◌, ap, subst, Option, Some, None, not, ◌||◌, ◌&&◌, ◌⊎◌, inl, inr}
use Rattle.std.specs.List.{list_any}
use Rattle.std.proofs.lemmas.Bool.{and_parts, or_cases, or_left, or_right, not-false}
use Rattle.jc_facts.specs.declared.class_facts.ClassFacts.{ClassFacts}
use Rattle.jc_facts.specs.declared.client.ClientClass.{ClientClass}
use Rattle.jc_facts.specs.declared.client.Item.TheVariants as item
use Rattle.jc_facts.specs.declared.client.Place.{Place}
use Rattle.jc_facts.specs.declared.act.Act.{Act}
use Rattle.jc_facts.specs.declared.key.Key.{Key}
use Rattle.jc_facts.specs.declared.link_error.LinkError.TheVariants.{IllegalAccessError}
use Rattle.jc_facts.specs.Names.{Bytes, same, object_name}
use Rattle.jc_facts.specs.world.Types.{Element, Primitive, Class, TypeText, type_read}
use Rattle.jc_facts.specs.world.World.{World, find_class, class_named, with_clients}
use Rattle.jc_facts.specs.world.Search.{supers, supers_of}
use Rattle.jc_facts.specs.Options.{or_else, and_then, some_and}
use Rattle.jc_facts.specs.world.Hierarchy.{chain, names_in, in_chain}
use Rattle.jc_facts.specs.world.Access.{is_class_accessible}
use Rattle.jc_facts.specs.world.Loading.{load_fault, loads, fault_where}
use Rattle.jc_facts.specs.world.Assignment.{is_interface_of, is_class_assignable, is_element_assignable, assign_to, assign_types, is_assignable}
use Rattle.jc_facts.specs.client.Outcome.{class_fault, element_fault, type_fault, class_step}
use Rattle.jc_promises.specs.client.Names.{is_client_name}
use Rattle.jc_promises.specs.client.Reach.{is_opened_by, class_in_reach, element_in_reach, text_in_reach, type_in_reach, receiver_in_reach, is_invoke_interface, is_interface_element, is_interface_type, is_in_reach}
use Rattle.jc_promises.specs.rule.Findings.{takes_part}
use Rattle.jc_promises.specs.rule.Bases.{is_class_usable, is_kept}
use Rattle.jc_promises.specs.rule.Exposed.{is_exposed}
use Rattle.jc_lemmas.proofs.Listed.{EachOf}
use Rattle.jc_facts.proofs.World.{names, find-name, class_named-name, IsOf}
use Rattle.jc_facts.proofs.Same.{same_is, same_itself}
use Rattle.jc_worlds.proofs.Above.{fault_where-none, chain-each}
use Rattle.jc_worlds.proofs.Loaded.{loads-found, loads-parts, loads-induction}
use Rattle.jc_facts.proofs.Options.{or_else-none, or_else-both}
use Rattle.jc_worlds.proofs.Sides.{find-library, load_fault-side, chain-side}
use Rattle.jc_worlds.specs.Agreement.{SeeAlike}
use Rattle.jc_worlds.proofs.VisibleFrom.{same_class_access, clients_alike}
use Rattle.jc_worlds.proofs.Clients.{Fits, client_module, find-client}
use Rattle.jc_sound.proofs.Standing.{Quiet, stays_usable, stays_kept, usable_parts, usable_accessible}
use Rattle.jc_sound.proofs.OpenActs.{IsSeat}
use Rattle.jc_sound.proofs.Apart.{HasBelow, below_apart, below_one}
use Rattle.jc_sound.proofs.Assigned.{part_interface, part_chain, handed_chain, in_chain-same}
use Rattle.jc_lemmas.proofs.Options.{none_where}
use Rattle.jc_sound.proofs.ClientLoads.{library_usable, library_loads, super_access}
use Rattle.jc_worlds.proofs.Unrolled.{in_chain-step, own_chain, above}

-- a class of the list has the name
in_list : (W : World) (cs : List ClassFacts) (y : Bytes) → EachOf (IsOf W) cs → names_in cs y ≡ true → (c : ClassFacts) × (find_class W y ≡ Some c)
in_list W [] y h e = absurd (cc)
in_list W (c ∷ cs) y h e = go (same c.name y) refl e (in_list W cs y h.1)
  where
    go : (b : Bool) → same c.name y ≡ b → (b || names_in cs y) ≡ true → (names_in cs y ≡ true → (d : ClassFacts) × (find_class W y ≡ Some d)) → (d : ClassFacts) × (find_class W y ≡ Some d)
    go true p q r = (c, ap (find_class W) (sym (same_is c.name y p)) ∙ h.0)
    go false p q r = r q

pub chain-names : (W : World) (x y : Bytes) → load_fault W x ≡ None → in_chain W x y ≡ true → (c : ClassFacts) × (find_class W y ≡ Some c)
chain-names W x y h e = in_list W (chain W x) y (chain-each W (IsOf W) (λ z c f l. ap (find_class W) (find-name W z c f) ∙ f) x h) e

-- a type is assignable to itself in every world, or in none
assign_itself : (V W : World) (s : Bytes) → is_assignable V s s ≡ is_assignable W s s
unfolding is_assignable assign_to
assign_itself V W s = go (type_read s)
  where
    by_element : (p : Element) → is_element_assignable V p p ≡ is_element_assignable W p p
    by_element (Primitive p) = refl
    by_element (Class y) = rw (same_itself y) refl

    at_dims : (d : ℕ) (p : Element) → assign_to V d p d p ≡ assign_to W d p d p
    at_dims zero p = by_element p
    at_dims (suc d) p = at_dims d p

    go : (o : Option TypeText) → assign_types V o o ≡ assign_types W o o
    go None = refl
    go (Some a) = at_dims a.dims a.element

module _ (O N : World) (cs : List ClassFacts) (fo : Fits O cs) (fn : Fits N cs) (quiet : Quiet O N)
    (client_names : EachOf (λ n. is_client_name O N n ≡ true) (names cs))
    (clients_load : (x : Bytes) (c : ClassFacts) → class_named cs x ≡ Some c → load_fault (with_clients O cs) x ≡ None → load_fault (with_clients N cs) x ≡ None) where
  abbrev VO : World
  VO = with_clients O cs

  abbrev VN : World
  VN = with_clients N cs

  -- a class that a client can name
  pub class_fault-kept : (x : Bytes) (c : ClassFacts) → class_named cs x ≡ Some c → (y : Bytes) → class_fault VO x y ≡ None → class_fault VN x y ≡ None
  unfolding class_fault and_then
  class_fault-kept x c e y f = go (class_named cs y) refl (loads-found VO y (p).0)
    where
      p : (load_fault VO y ≡ None) × (and_then (λ d. fault_where (not (is_class_accessible VO x d)) IllegalAccessError) (find_class VO y) ≡ None)
      p = or_else-none (load_fault VO y) (and_then (λ d. fault_where (not (is_class_accessible VO x d)) IllegalAccessError) (find_class VO y)) f

      access : (d : ClassFacts) → find_class VO y ≡ Some d → is_class_accessible VO x d ≡ true
      access d t = let q : fault_where (not (is_class_accessible VO x d)) IllegalAccessError ≡ None = rw t at p.1 in not-false (is_class_accessible VO x d) (fault_where-none (not (is_class_accessible VO x d)) IllegalAccessError q)

      made : (d : ClassFacts) → find_class VN y ≡ Some d → load_fault VN y ≡ None → is_class_accessible VN x d ≡ true → or_else (load_fault VN y) (and_then (λ d. fault_where (not (is_class_accessible VN x d)) IllegalAccessError) (find_class VN y)) ≡ None
      made d t l a = or_else-both (load_fault VN y) _ l (rw t (rw a refl))

      go : (o : Option ClassFacts) → class_named cs y ≡ o → (d : ClassFacts) × (find_class VO y ≡ Some d) → or_else (load_fault VN y) (and_then (λ d. fault_where (not (is_class_accessible VN x d)) IllegalAccessError) (find_class VN y)) ≡ None
      go (Some d) k t = made d (find-client N cs fn y d k) (clients_load y d k p.0) (sym (same_class_access O N x d (subst (λ z. SeeAlike O N x z) (sym (class_named-name cs y d k)) (clients_alike O N x y (client_module O cs fo x c e) (client_module O cs fo y d k) (client_module N cs fn x c e) (client_module N cs fn y d k)))) ∙ access d (find-client O cs fo y d k))
      go None k t =
          let o = find-library O cs fo.bare y k ∙ t.1 in
          let u = library_usable O N cs fo fn quiet client_names x c e y t.0 k o p.0 (access t.0 t.1) in
          let n = usable_parts N y (stays_usable O N quiet y u) in
          made n.class (sym (find-library N cs fn.bare y k) ∙ n.is_there) (library_loads O N cs fo fn quiet client_names y k u) (usable_accessible N y n x)

  -- the item that names a class
  pub class_step-kept : (x : Bytes) (c : ClassFacts) → class_named cs x ≡ Some c → (t : Bytes) → class_step VO x t ≡ None → class_step VN x t ≡ None
  unfolding class_step
  class_step-kept x c e t f = go (type_read t) f
    where
      by : (a : Element) → element_fault VO x a ≡ None → element_fault VN x a ≡ None
      by (Primitive p) h = refl
      by (Class y) h = class_fault-kept x c e y h

      go : (o : Option TypeText) → type_fault VO x o ≡ None → type_fault VN x o ≡ None
      go None h = absurd (cc)
      go (Some a) h = by a.element h

  -- a client, or a library class that was usable
  pub data IsHeld : Bytes → Type 0 where
    client : {y : Bytes} (c : ClassFacts) → class_named cs y ≡ Some c → IsHeld y
    library : {y : Bytes} → class_named cs y ≡ None → is_class_usable O y ≡ true → IsHeld y

  pub held : (x : Bytes) (c : ClassFacts) → class_named cs x ≡ Some c → (y : Bytes) → load_fault VO y ≡ None → ((d : ClassFacts) → find_class VO y ≡ Some d → is_class_accessible VO x d ≡ true) → IsHeld y
  held x c e y h a = go (class_named cs y) refl (loads-found VO y h)
    where
      go : (o : Option ClassFacts) → class_named cs y ≡ o → (d : ClassFacts) × (find_class VO y ≡ Some d) → IsHeld y
      go (Some d) k t = client d k
      go None k t = library k (library_usable O N cs fo fn quiet client_names x c e y t.0 k (find-library O cs fo.bare y k ∙ t.1) h (a t.0 t.1))

  -- ---- assignments

  -- a library class is kept, or hidden and exposed to a seat of clients, directly below which one loads
  pub data LibraryPart : Bytes → Type 0 where
    of_kept : {y : Bytes} → is_kept O N y ≡ true → LibraryPart y
    of_exposed : {y : Bytes} (a : Bytes) → IsSeat O N a → HasBelow VO cs a → is_exposed O a y ≡ true → LibraryPart y

  -- a client, or such a class
  pub data TakesPart : Bytes → Type 0 where
    of_client : {y : Bytes} (c : ClassFacts) → class_named cs y ≡ Some c → TakesPart y
    of_library : {y : Bytes} → class_named cs y ≡ None → LibraryPart y → TakesPart y

  pub held_part : (y : Bytes) → IsHeld y → TakesPart y
  held_part y (client c k) = of_client c k
  held_part y (library k u) = of_library k (of_kept (stays_kept O N quiet y u))

  kept_part : (a y : Bytes) → is_kept O N y ≡ true → takes_part O N a y ≡ true
  kept_part a y p = or_left (is_kept O N y) (is_exposed O a y) p

  exposed_part : (a y : Bytes) → is_exposed O a y ≡ true → takes_part O N a y ≡ true
  exposed_part a y p = or_right (is_kept O N y) (is_exposed O a y) p

  library_interface : (y : Bytes) → LibraryPart y → is_interface_of O y ≡ true → is_interface_of N y ≡ true
  library_interface y (of_kept p) = part_interface O N quiet object_name (inl refl) y (kept_part object_name y p)
  library_interface y (of_exposed a i d p) = part_interface O N quiet a i y (exposed_part a y p)

  library_chain : (s t : Bytes) → LibraryPart s → LibraryPart t → same s t ≡ false → in_chain O s t ≡ true → (in_chain N s t ≡ true) ⊎ (is_interface_of N t ≡ true)
  library_chain s t (of_kept p) (of_kept q) = part_chain O N quiet object_name (inl refl) s t (kept_part object_name s p) (kept_part object_name t q)
  library_chain s t (of_kept p) (of_exposed b j e q) = part_chain O N quiet b j s t (kept_part b s p) (exposed_part b t q)
  library_chain s t (of_exposed a i d p) (of_kept q) = part_chain O N quiet a i s t (exposed_part a s p) (kept_part a t q)
  library_chain s t (of_exposed a i d p) (of_exposed b j e q) = go (same d.client.name e.client.name) refl
    where
      -- the same client is below both, or another one
      go : (v : Bool) → same d.client.name e.client.name ≡ v → same s t ≡ false → in_chain O s t ≡ true → (in_chain N s t ≡ true) ⊎ (is_interface_of N t ≡ true)
      go true v = let z : a ≡ b = below_one O N cs fo client_names a b d e v in part_chain O N quiet a i s t (exposed_part a s p) (exposed_part a t (subst (λ z. is_exposed O z t ≡ true) (sym z) q))
      go false v = handed_chain O N quiet a b i j s t p q (below_apart O N cs fo client_names a b d e v)

  pub interface-kept : (y : Bytes) → TakesPart y → is_interface_of VO y ≡ true → is_interface_of VN y ≡ true
  interface-kept y (of_client d k) i = let o = find-client O cs fo y d k in let n = find-client N cs fn y d k in rw n (rw o at i)
  interface-kept y (of_library k p) i =
      let j : is_interface_of O y ≡ true = rw (find-library O cs fo.bare y k) i in
      let g : is_interface_of N y ≡ true = library_interface y p j in
      rw (← find-library N cs fn.bare y k) g

  -- who stands in a chain with the old release does so with the new one, or is an interface now
  unfoldable pub Stays : Bytes → Bytes → Type 0
  Stays t s = (in_chain VN s t ≡ true) ⊎ (is_interface_of VN t ≡ true)

  -- in that of a library class, also of one that doesn't load with the new release
  library_stays : (s t : Bytes) → class_named cs s ≡ None → LibraryPart s → load_fault VO s ≡ None → TakesPart t → same s t ≡ false → in_chain VO s t ≡ true → Stays t s
  unfolding Stays
  library_stays s t k p h d n i = go d
    where
      lo : load_fault O s ≡ None
      lo = load_fault-side O cs fo.bare fo.unused s k ∙ h

      co : in_chain O s t ≡ true
      co = ap (λ cs. names_in cs t) (chain-side O cs fo.bare fo.unused s k lo) ∙ i

      go : TakesPart t → (in_chain VN s t ≡ true) ⊎ (is_interface_of VN t ≡ true)
      go (of_client c e) = absurd (let w = chain-names O s t lo co in let q : find_class O t ≡ None = fo.undeclared t c e in let r : Some w.0 ≡ None = sym w.1 ∙ q in cc)
      go (of_library kt q) = by (library_chain s t p q n co)
        where
          by : (in_chain N s t ≡ true) ⊎ (is_interface_of N t ≡ true) → (in_chain VN s t ≡ true) ⊎ (is_interface_of VN t ≡ true)
          by (inl w) = inl (sym (in_chain-same N cs fn.bare fn.unused s t k) ∙ w)
          by (inr w) = inr (let f = find-library N cs fn.bare t kt in rw (← f) w)

  -- in that of one that is usable, itself among them
  usable_stays : (s t : Bytes) → class_named cs s ≡ None → is_class_usable O s ≡ true → load_fault VO s ≡ None → TakesPart t → in_chain VO s t ≡ true → Stays t s
  unfolding Stays
  usable_stays s t k u h d i = go (same s t) refl
    where
      ln : load_fault N s ≡ None
      ln = (usable_parts N s (stays_usable O N quiet s u)).loaded

      go : (b : Bool) → same s t ≡ b → (in_chain VN s t ≡ true) ⊎ (is_interface_of VN t ≡ true)
      go true e = inl (sym (in_chain-same N cs fn.bare fn.unused s t k) ∙ subst (λ z. in_chain N s z ≡ true) (same_is s t e) (own_chain N s ln))
      go false e = library_stays s t k (of_kept (stays_kept O N quiet s u)) h d e i

  pub chain-kept : (t : Bytes) → TakesPart t → (s : Bytes) → load_fault VO s ≡ None → IsHeld s → in_chain VO s t ≡ true → Stays t s
  unfolding Stays
  chain-kept t d = loads-induction VO (λ s. IsHeld s → in_chain VO s t ≡ true → Stays t s) (λ s c f h r k i. by s c f h r k i)
    where
      through_client : (s : Bytes) (c e : ClassFacts) → find_class VO s ≡ Some c → load_fault VO s ≡ None → EachOf (λ y. IsHeld y → in_chain VO y t ≡ true → (in_chain VN y t ≡ true) ⊎ (is_interface_of VN t ≡ true)) (supers c)
          → class_named cs s ≡ Some e → c ≡ e → in_chain VO s t ≡ true → (in_chain VN s t ≡ true) ⊎ (is_interface_of VN t ≡ true)
      through_client s c e f h r k q i = go (same c.name t) refl (in_chain-step VO s t c h f) (in_chain-step VN s t c ln fn')
        where
          kc : class_named cs s ≡ Some c
          kc = subst (λ z. class_named cs s ≡ Some z) (sym q) k

          ln : load_fault VN s ≡ None
          ln = clients_load s c kc h

          fn' : find_class VN s ≡ Some c
          fn' = find-client N cs fn s c kc

          parts : EachOf (λ y. load_fault VO y ≡ None) (supers c) × EachOf (λ y. (d : ClassFacts) → find_class VO y ≡ Some d → is_class_accessible VO c.name d ≡ true) (supers c)
          parts = let p = loads-parts VO s c f h in (p.0, super_access VO c p.1)

          named : c.name ≡ s
          named = class_named-name cs s c kc

          up : (o : Option Bytes) (is : List Bytes) → EachOf (λ y. IsHeld y → in_chain VO y t ≡ true → (in_chain VN y t ≡ true) ⊎ (is_interface_of VN t ≡ true)) (supers_of o is)
              → EachOf (λ y. load_fault VO y ≡ None) (supers_of o is) → EachOf (λ y. (d : ClassFacts) → find_class VO y ≡ Some d → is_class_accessible VO c.name d ≡ true) (supers_of o is)
              → above (λ z. in_chain VO z t) o ≡ true → (above (λ z. in_chain VN z t) o ≡ true) ⊎ (is_interface_of VN t ≡ true)
          up None is a b e' g = absurd (cc)
          up (Some y) is a b e' g = a.0 (held s c kc y b.0 (λ d w. subst (λ z. is_class_accessible VO z d ≡ true) named (e'.0 d w))) g

          go : (b : Bool) → same c.name t ≡ b → in_chain VO s t ≡ (same c.name t || above (λ z. in_chain VO z t) c.superclass) → in_chain VN s t ≡ (same c.name t || above (λ z. in_chain VN z t) c.superclass)
              → (in_chain VN s t ≡ true) ⊎ (is_interface_of VN t ≡ true)
          go true p u v = inl (v ∙ or_left (same c.name t) (above (λ z. in_chain VN z t) c.superclass) p)
          go false p u v = pick (up c.superclass c.interfaces r parts.0 parts.1 (let w : (false || above (λ z. in_chain VO z t) c.superclass) ≡ true = subst (λ b. (b || above (λ z. in_chain VO z t) c.superclass) ≡ true) p (sym u ∙ i) in w))
            where
              pick : (above (λ z. in_chain VN z t) c.superclass ≡ true) ⊎ (is_interface_of VN t ≡ true) → (in_chain VN s t ≡ true) ⊎ (is_interface_of VN t ≡ true)
              pick (inl w) = inl (v ∙ or_right (same c.name t) (above (λ z. in_chain VN z t) c.superclass) w)
              pick (inr w) = inr w

      by : (s : Bytes) (c : ClassFacts) → find_class VO s ≡ Some c → load_fault VO s ≡ None → EachOf (λ y. IsHeld y → in_chain VO y t ≡ true → (in_chain VN y t ≡ true) ⊎ (is_interface_of VN t ≡ true)) (supers c)
          → IsHeld s → in_chain VO s t ≡ true → (in_chain VN s t ≡ true) ⊎ (is_interface_of VN t ≡ true)
      by s c f h r (client e k) i =
          let q : c ≡ e = let w : Some c ≡ Some e = sym f ∙ find-client O cs fo s e k in cc in
          through_client s c e f h r k q i
      by s c f h r (library k u) i = usable_stays s t k u h d i

  pub assign_class-kept : (s t : Bytes) → load_fault VO s ≡ None → TakesPart s → TakesPart t → is_class_assignable VO s t ≡ true → is_class_assignable VN s t ≡ true
  unfolding Stays
  assign_class-kept s t h ks kt q = same_one (same s t) refl
    where
      stay : (in_chain VN s t ≡ true) ⊎ (is_interface_of VN t ≡ true) → is_class_assignable VN s t ≡ true
      stay (inl p) = or_right (same s t || is_interface_of VN t) (in_chain VN s t) p
      stay (inr p) = or_left (same s t || is_interface_of VN t) (in_chain VN s t) (or_right (same s t) (is_interface_of VN t) p)

      above : TakesPart s → same s t ≡ false → in_chain VO s t ≡ true → is_class_assignable VN s t ≡ true
      above (of_client c k) n p = stay (chain-kept t kt s h (client c k) p)
      above (of_library k w) n p = stay (library_stays s t k w h kt n p)

      other : same s t ≡ false → (is_interface_of VO t ≡ true) ⊎ (in_chain VO s t ≡ true) → is_class_assignable VN s t ≡ true
      other n (inl p) = stay (inr (interface-kept t kt p))
      other n (inr p) = above ks n p

      same_one : (b : Bool) → same s t ≡ b → is_class_assignable VN s t ≡ true
      same_one true e = or_left (same s t || is_interface_of VN t) (in_chain VN s t) (or_left (same s t) (is_interface_of VN t) e)
      same_one false e = other e (or_cases (is_interface_of VO t) (in_chain VO s t) (subst (λ b. (b || is_interface_of VO t || in_chain VO s t) ≡ true) e q))

  -- ---- types

  -- the class that an element type names loads with the old release and takes part
  abbrev pub PartElement : Element → Type 0
  PartElement (Primitive p) = Unit {0}
  PartElement (Class y) = (load_fault VO y ≡ None) × TakesPart y

  abbrev pub PartText : Option TypeText → Type 0
  PartText None = Unit {0}
  PartText (Some t) = PartElement t.element

  -- the same of a type
  abbrev pub PartType : Bytes → Type 0
  PartType t = PartText (type_read t)

  -- the types are equal, or that assigned to takes part, and is an interface or the other one takes part too
  abbrev pub PartAssign : Bytes → Bytes → Type 0
  PartAssign s t = (s ≡ t) ⊎ (PartType t × (PartType s ⊎ (is_interface_type VO t ≡ true)))

  -- what is assignable to an interface, or to an array of one, still is
  assign_interface-kept : (s t : Bytes) → TakesPart t → is_interface_of VO t ≡ true → is_class_assignable VN s t ≡ true
  assign_interface-kept s t p i = or_left (same s t || is_interface_of VN t) (in_chain VN s t) (or_right (same s t) (is_interface_of VN t) (interface-kept t p i))

  -- an assignment between such types
  pub is_assignable-kept : (s t : Bytes) → PartAssign s t → is_assignable VO s t ≡ true → is_assignable VN s t ≡ true
  unfolding is_assignable assign_to is_interface_type
  is_assignable-kept s t (inl e) h =
      let was : is_assignable VO s s ≡ true = subst (λ z. is_assignable VO s z ≡ true) (sym e) h in
      subst (λ z. is_assignable VN s z ≡ true) e (assign_itself VN VO s ∙ was)
  is_assignable-kept s t (inr p) h = go (type_read s) (type_read t) p.0 p.1 h
    where
      by_element : (p q : Element) → PartElement q → PartElement p ⊎ (is_interface_element VO q ≡ true) → is_element_assignable VO p q ≡ true → is_element_assignable VN p q ≡ true
      by_element (Primitive p) (Primitive q) v u h = h
      by_element (Class p) (Class q) v (inl u) h = assign_class-kept p q u.0 u.1 v.1 h
      by_element (Class p) (Class q) v (inr i) h = assign_interface-kept p q v.1 i
      by_element (Class p) (Primitive q) v u h = h
      by_element (Primitive p) (Class q) v u h = h

      at_dims : (d f : ℕ) (p q : Element) → PartElement q → PartElement p ⊎ (is_interface_element VO q ≡ true) → assign_to VO d p f q ≡ true → assign_to VN d p f q ≡ true
      at_dims zero zero p q v u h = by_element p q v u h
      at_dims zero (suc f) p q v u h = h
      at_dims (suc d) zero p q v u h = h
      at_dims (suc d) (suc f) p q v u h = at_dims d f p q v u h

      go : (o m : Option TypeText) → PartText m → PartText o ⊎ (some_and (λ a. is_interface_element VO a.element) m ≡ true) → assign_types VO o m ≡ true → assign_types VN o m ≡ true
      go None m v u h = absurd (cc)
      go (Some p) None v u h = absurd (cc)
      go (Some p) (Some q) v u h = at_dims p.dims q.dims p.element q.element v u h

  -- of an assignment, by tests that say that its types take part
  pub part_assign : (s t : Bytes) (u v : Bool) → (u ≡ true → PartType s) → (v ≡ true → PartType t) → (same s t || (v && (u || is_interface_type VO t))) ≡ true → PartAssign s t
  part_assign s t u v ps pt h = go (or_cases (same s t) (v && (u || is_interface_type VO t)) h)
    where
      source : (u ≡ true) ⊎ (is_interface_type VO t ≡ true) → PartType s ⊎ (is_interface_type VO t ≡ true)
      source (inl q) = inl (ps q)
      source (inr q) = inr q

      go : (same s t ≡ true) ⊎ ((v && (u || is_interface_type VO t)) ≡ true) → PartAssign s t
      go (inl q) = inl (same_is s t q)
      go (inr q) = let p = and_parts v (u || is_interface_type VO t) q in inr (pt p.0, source (or_cases u (is_interface_type VO t) p.1))

  -- the receiver takes part, or isn't looked at
  abbrev pub PartReceiver : Act → Option Bytes → Type 0
  PartReceiver act r = (s : Bytes) → r ≡ Some s → PartType s ⊎ (is_invoke_interface act ≡ true)

  -- of a receiver, by a test that says that it takes part
  pub part_receiver : (act : Act) (r : Option Bytes) (u : Bool) → (u ≡ true → (s : Bytes) → r ≡ Some s → PartType s) → (u || is_invoke_interface act) ≡ true → PartReceiver act r
  part_receiver act r u p h s e = go (or_cases u (is_invoke_interface act) h)
    where
      go : (u ≡ true) ⊎ (is_invoke_interface act ≡ true) → PartType s ⊎ (is_invoke_interface act ≡ true)
      go (inl q) = inl (p q s e)
      go (inr q) = inr q

  -- ---- what a client has in reach

  -- the library classes that one of the clients opens and that aren't usable take part
  abbrev pub OpensParts : List ClientClass → Type 0
  OpensParts ccs = (y : Bytes) → class_named cs y ≡ None → load_fault VO y ≡ None → is_class_usable O y ≡ false → list_any (is_opened_by VO y) ccs ≡ true → LibraryPart y

  module _ (x : Bytes) (c : ClassFacts) (kx : class_named cs x ≡ Some c) (ccs : List ClientClass) (exposed : OpensParts ccs) where
    reached : (y : Bytes) → class_in_reach VO x ccs y ≡ true → (load_fault VO y ≡ None) × TakesPart y
    reached y r =
        let p = and_parts (loads VO y) (some_and (is_class_accessible VO x) (find_class VO y) || list_any (is_opened_by VO y) ccs) r in
        let l : load_fault VO y ≡ None = none_where (load_fault VO y) p.0 in
        (l, by l (or_cases (some_and (is_class_accessible VO x) (find_class VO y)) (list_any (is_opened_by VO y) ccs) p.1))
      where
        library_part : class_named cs y ≡ None → load_fault VO y ≡ None → list_any (is_opened_by VO y) ccs ≡ true → (b : Bool) → is_class_usable O y ≡ b → TakesPart y
        library_part k l o true u = held_part y (library k u)
        library_part k l o false u = of_library k (exposed y k l u o)

        opened : load_fault VO y ≡ None → list_any (is_opened_by VO y) ccs ≡ true → (o : Option ClassFacts) → class_named cs y ≡ o → TakesPart y
        opened l o (Some d) k = of_client d k
        opened l o None k = library_part k l o (is_class_usable O y) refl

        by : load_fault VO y ≡ None → (some_and (is_class_accessible VO x) (find_class VO y) ≡ true) ⊎ (list_any (is_opened_by VO y) ccs ≡ true) → TakesPart y
        by l (inl q) = held_part y (held x c kx y l (λ d f. let w : is_class_accessible VO x d ≡ true = rw f at q in w))
        by l (inr q) = opened l q (class_named cs y) refl

    reached_type : (t : Bytes) → type_in_reach VO x ccs t ≡ true → PartType t
    unfolding type_in_reach
    reached_type t r = go (type_read t) r
      where
        by : (e : Element) → element_in_reach VO x ccs e ≡ true → PartElement e
        by (Primitive p) h = tt
        by (Class y) h = reached y h

        go : (o : Option TypeText) → text_in_reach VO x ccs o ≡ true → PartText o
        go None h = tt
        go (Some t) h = by t.element h

    reached_known : (r : Option Bytes) → receiver_in_reach VO x ccs r ≡ true → (t : Bytes) → r ≡ Some t → PartType t
    reached_known None h t e = absurd (cc)
    reached_known (Some z) h t e = let q : z ≡ t = cc in subst PartType q (reached_type z h)

    pub reached_receiver : (act : Act) (t : Bytes) (k : Key) (r : Option Bytes) (place : Place) → is_in_reach VO x ccs (item.Access act t k r place) ≡ true → PartReceiver act r
    reached_receiver act t k r place = part_receiver act r (receiver_in_reach VO x ccs r) (reached_known r)

    pub reached_assign : (s t : Bytes) → is_in_reach VO x ccs (item.Assign s t) ≡ true → PartAssign s t
    reached_assign s t = part_assign s t (type_in_reach VO x ccs s) (type_in_reach VO x ccs t) (reached_type s) (reached_type t)
