-- What lookups from planned clients find, and what they may use of it.
use Rattle.std.proofs.Common.{◌≡◌, ℕ, Bool, true, false, List, [], ◌∷◌, refl, sym, ◌∙◌, ap, subst, Option, Some, None, not, nat_le, ◌+◌, ◌&&◌, ◌||◌, ◌⊎◌, inl, inr}
use Rattle.std.proofs.lemmas.Bool.{and_parts, both_ways, or_cases}
use Rattle.std.specs.List.{list_any}
use Rattle.jc_desc.specs.Utf8.{is_modified_utf8}
use Rattle.jc_facts.specs.declared.class_facts.ClassFacts.{ClassFacts}
use Rattle.jc_facts.specs.declared.class_facts.Member.{Member}
use Rattle.jc_facts.specs.declared.client.Item.TheVariants as item
use Rattle.jc_facts.specs.declared.key.Key.{Key}
use Rattle.jc_facts.specs.declared.link_error.LinkError.TheVariants.{IllegalAccessError}
use Rattle.jc_facts.specs.Names.{Bytes, same, in_same_package, is_key, package_name}
use Rattle.jc_facts.specs.Flags.{public_flag, protected_flag, static_flag, interface_flag, private_flag}
use Rattle.jc_facts.specs.world.Types.{is_array_text}
use Rattle.jc_facts.specs.Options.{or_else, some_and}
use Rattle.jc_facts.specs.world.World.{World, DeclaredMember, find_class, class_named, with_clients, own_method_of, found_in}
use Rattle.jc_facts.specs.world.Hierarchy.{in_chain, superinterfaces, names_in}
use Rattle.jc_facts.specs.world.Loading.{load_fault, fault_where}
use Rattle.jc_facts.specs.world.Lookup.{or_choices, superinterface_choices, first_declared, declared_by}
use Rattle.jc_facts.specs.client.Outcome.{outcome}
use Rattle.jc_facts.specs.file.Valid.{IsValidClass, method_is_valid}
use Rattle.jc_facts.specs.client.Allowed.{is_allowed_name}
use Rattle.jc_facts.specs.world.Inheritance.{offers}
use Rattle.jc_lemmas.proofs.Listed.{EachOf}
use Rattle.jc_facts.proofs.Same.{same_itself, same_is}
use Rattle.jc_worlds.proofs.Clients.{Fits}
use Rattle.jc_lemmas.proofs.Lists.{IsCons, cons_or, found_passes}
use Rattle.jc_worlds.proofs.Offers.{choices-some, declared_by-offers}
use Rattle.jc_complete.proofs.PlanLoads.{lib_find, lib_fault}
use Rattle.jc_desc.specs.Reading.{slots_of_method}
use Rattle.jc_facts.specs.world.Access.{is_member_accessible, are_nestmates, is_class_accessible}
use Rattle.jc_facts.specs.file.Rules.{slots_fit_in, method_descriptor_fits, method_flags_fit}
use Rattle.jc_promises.specs.rule.Collisions.{leaves_room}
use Rattle.jc_worlds.proofs.Unrolled.{own_chain}
use Rattle.jc_facts.proofs.World.{IsOf, find-name}
use Rattle.jc_worlds.proofs.Packages.{same_nest-package}
use Rattle.jc_complete.proofs.PlanItems.{init_says}
use Rattle.jc_complete.proofs.PlanSeats.{access_is}
use Rattle.jc_complete.proofs.PlanBase.{IsConstructor}
use Rattle.jc_complete.proofs.PlanBelow.{open_member}
use Rattle.jc_complete.proofs.PlanMethodMadeFinal.{IsMethodText}
use Rattle.jc_desc.specs.Names.{spells_member_name}
use Rattle.jc_worlds.proofs.Inherited.{found_all}

-- ---- a client below a class of the side calls its constructor

pub below_init : (W : World) (cs : List ClassFacts) (f : Fits W cs) (x : Bytes) (c : ClassFacts) (s : Bytes) (d : ClassFacts) → class_named cs x ≡ Some c → c.superclass ≡ Some s → find_class W s ≡ Some d → load_fault W s ≡ None → load_fault (with_clients W cs) x ≡ None
    → is_allowed_name W x ≡ true → is_array_text s ≡ false → is_class_accessible W x d ≡ true → interface_flag d.flags ≡ false → (descriptor : Bytes) → IsConstructor d descriptor → outcome (with_clients W cs) x (item.Init s descriptor) ≡ None
below_init W cs f x c s d k q t h l a p u i descriptor ctor =
    let m : DeclaredMember = record { owner = d.name; member = ctor.method } in
    let o : find_class W d.name ≡ Some d = ap (find_class W) (find-name W s d t) ∙ t in
    let j : in_chain W s d.name ≡ true = subst (λ z. in_chain W s z ≡ true) (sym (find-name W s d t)) (own_chain W s h) in
    init_says (with_clients W cs) x s descriptor d ctor.method p (lib_find W cs f s d t) (lib_fault W cs f s d t ∙ h) u i ctor.declares
    ∙ ap (λ b. fault_where (not b) IllegalAccessError) (access_is W cs f x c s d k q t h l a s d t h m d o ∙ open_member W s m ctor.open_to j (own_chain W s h))

-- ---- lookups

pub no_choices : (o : Option DeclaredMember) (ms : List DeclaredMember) → or_choices o ms ≡ [] → (o ≡ None) × (ms ≡ [])
unfolding or_choices
no_choices None ms h = (refl, h)
no_choices (Some m) ms h = absurd (cc)

pub none_declared : (k : Key) (cs : List ClassFacts) → list_any (offers k) cs ≡ false → declared_by k cs ≡ []
none_declared k cs h = go (cons_or (declared_by k cs))
  where
    go : (declared_by k cs ≡ []) ⊎ IsCons (declared_by k cs) → declared_by k cs ≡ []
    go (inl e) = e
    go (inr c) = absurd (both_ways (list_any (offers k) cs) h (declared_by-offers k cs c))

pub none_offered : (W : World) (x : Bytes) (k : Key) → superinterface_choices W x k ≡ [] → list_any (offers k) (superinterfaces W x) ≡ false
none_offered W x k h = go (list_any (offers k) (superinterfaces W x)) refl
  where
    go : (b : Bool) → list_any (offers k) (superinterfaces W x) ≡ b → b ≡ false
    go false e = refl
    go true e = absurd (let c = choices-some W x k e in let z : [] ≡ c.head ∷ c.tail = sym h ∙ c.is in cc)

-- a class of the list that declares the key
pub declared_somewhere : (W : World) (k : Key) (x : Bytes) (c : ClassFacts) (m : Member) → find_class W x ≡ Some c → own_method_of c k ≡ Some m → (cs : List ClassFacts) → EachOf (IsOf W) cs → names_in cs x ≡ true → first_declared k cs ≡ None → ⊥
unfolding first_declared found_in or_else
declared_somewhere W k x c m e o [] h n q = absurd (let z : false ≡ true = n in cc)
declared_somewhere W k x c m e o (d ∷ ds) h n q = go (own_method_of d k) refl q (or_cases (same d.name x) (names_in ds x) n) (λ n q. declared_somewhere W k x c m e o ds h.1 n q)
  where
    go : (t : Option Member) → own_method_of d k ≡ t → or_else (found_in d t) (first_declared k ds) ≡ None → (same d.name x ≡ true) ⊎ (names_in ds x ≡ true) → (names_in ds x ≡ true → first_declared k ds ≡ None → ⊥) → ⊥
    go (Some n) p q w r = cc
    go None p q (inr w) r = r w q
    go None p q (inl w) r =
        let s : d ≡ c = let z : Some d ≡ Some c = sym h.0 ∙ ap (find_class W) (same_is d.name x w) ∙ e in cc in
        let z : None ≡ Some m = sym p ∙ ap (λ c. own_method_of c k) s ∙ o in cc

-- a member of another package that isn't public, in no superclass of x
pub closed_member : (V : World) (x n : Bytes) (m : DeclaredMember) → public_flag m.member.flags ≡ false → in_same_package x m.owner ≡ false → in_chain V x m.owner ≡ false → is_member_accessible V x n m ≡ false
unfolding is_member_accessible
closed_member V x n m p s c = rw (p, s, c, nest (are_nestmates V x m.owner) refl) (go (protected_flag m.member.flags) (private_flag m.member.flags) (static_flag m.member.flags || in_chain V x n || in_chain V n x))
  where
    nest : (b : Bool) → are_nestmates V x m.owner ≡ b → b ≡ false
    nest false e = refl
    nest true e = absurd (both_ways (in_same_package x m.owner) s (ap (λ z. same z (package_name m.owner)) (same_nest-package V x m.owner e) ∙ same_itself (package_name m.owner)))

    go : (t u v : Bool) → ((t && false && v) || (u && false)) ≡ false
    go true true v = refl
    go true false v = refl
    go false true v = refl
    go false false v = refl

-- the text of a key that a class declares, where there is room for an instance
pub text_with_room : (c : ClassFacts) (k : Key) (m : Member) → IsValidClass c → own_method_of c k ≡ Some m → leaves_room k ≡ true → IsMethodText k
text_with_room c k m v o room =
    let h = found_all (is_key k) (method_is_valid c) c.methods m o v.methods in
    let e = found_passes (is_key k) c.methods m o in
    let p = and_parts (same m.name k.name) (same m.descriptor k.descriptor) e in
    let n : m.name ≡ k.name = same_is m.name k.name p.0 in
    let d : m.descriptor ≡ k.descriptor = same_is m.descriptor k.descriptor p.1 in
    let h1 = and_parts (spells_member_name m.name true && is_modified_utf8 m.name && method_descriptor_fits m.name m.flags m.descriptor && is_modified_utf8 m.descriptor) (method_flags_fit c.major c.flags m.name m.flags) h in
    let h2 = and_parts (spells_member_name m.name true && is_modified_utf8 m.name && method_descriptor_fits m.name m.flags m.descriptor) (is_modified_utf8 m.descriptor) h1.0 in
    let h3 = and_parts (spells_member_name m.name true && is_modified_utf8 m.name) (method_descriptor_fits m.name m.flags m.descriptor) h2.0 in
    let h4 = and_parts (spells_member_name m.name true) (is_modified_utf8 m.name) h3.0 in
    record {
      name = subst (λ z. spells_member_name z true ≡ true) n h4.0;
      name_text = subst (λ z. is_modified_utf8 z ≡ true) n h4.1;
      slots = fit (slots_of_method k.descriptor) room;
      descriptor_text = subst (λ z. is_modified_utf8 z ≡ true) d h2.1;
    }
  where
    fit : (o : Option ℕ) → some_and (λ n. nat_le (n + 1) 255) o ≡ true → slots_fit_in true o ≡ true
    fit None q = q
    fit (Some n) q = q
