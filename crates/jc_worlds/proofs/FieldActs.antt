-- Where no finding stands, each act of a client on a field through a library class stays open to it.
use Rattle.std.proofs.Common.{◌≡◌, Bool, true, false, List, [], ◌∷◌, refl, sym, ◌∙◌, ap, subst, Option, Some, None, ◌||◌, ◌&&◌, ◌⊎◌, inl, inr}
use Rattle.std.proofs.lemmas.Bool.{and_parts, and_from, or_cases, or_left, or_right}
use Rattle.std.specs.Cmp.{both_ways}
use Rattle.jc_facts.specs.declared.class_facts.ClassFacts.{ClassFacts}
use Rattle.jc_facts.specs.declared.key.Key.{Key}
use Rattle.jc_facts.specs.declared.class_facts.Member.{Member}
use Rattle.jc_facts.specs.Names.{Bytes, package_name, in_same_package}
use Rattle.jc_facts.specs.Flags.{public_flag, private_flag, protected_flag, package_private, static_flag}
use Rattle.jc_facts.specs.world.World.{World, find_class, DeclaredMember, own_field_of, found_in}
use Rattle.jc_facts.specs.world.Search.{supers, supers_of}
use Rattle.jc_facts.specs.Options.{or_else, first_some, and_then}
use Rattle.jc_facts.specs.world.Hierarchy.{in_chain}
use Rattle.jc_facts.specs.world.Access.{is_member_accessible, are_nestmates, is_member_open}
use Rattle.jc_facts.specs.world.Loading.{load_fault}
use Rattle.jc_facts.specs.world.Lookup.{field_found, field_step}
use Rattle.jc_lemmas.proofs.Listed.{EachOf}
use Rattle.jc_facts.proofs.World.{find-name}
use Rattle.jc_facts.proofs.Same.{same_is}
use Rattle.jc_worlds.proofs.Loaded.{loads-induction, unroll}
use Rattle.jc_facts.proofs.Options.{or_else-cases}
use Rattle.jc_worlds.proofs.Locality.{field_step-local, of_interfaces}
use Rattle.jc_worlds.proofs.Packages.{same_nest-package}

-- a field that a lookup finds, its owner declares
pub record IsField (W : World) (k : Key) (m : DeclaredMember) : Type 0 where
  pub class : ClassFacts
  pub is_there : find_class W m.owner ≡ Some class
  pub declares : own_field_of class k ≡ Some m.member

first_some-each : (W : World) (k : Key) (m : DeclaredMember) (f : Bytes → Option DeclaredMember) (xs : List Bytes) → EachOf (λ y. f y ≡ Some m → IsField W k m) xs → first_some f xs ≡ Some m → IsField W k m
unfolding first_some
first_some-each W k m f [] h e = absurd (cc)
first_some-each W k m f (x ∷ xs) h e = go (or_else-cases (f x) (first_some f xs) m e) (first_some-each W k m f xs h.1)
  where
    go : (f x ≡ Some m) ⊎ (first_some f xs ≡ Some m) → (first_some f xs ≡ Some m → IsField W k m) → IsField W k m
    go (inl p) r = h.0 p
    go (inr p) r = r p

pub field_found-declared : (W : World) (k : Key) (m : DeclaredMember) (x : Bytes) → load_fault W x ≡ None → field_found W x k ≡ Some m → IsField W k m
unfolding field_found field_step and_then found_in
field_found-declared W k m = loads-induction W (λ x. field_found W x k ≡ Some m → IsField W k m) (λ x c f h r e.
    step x c f r (sym (unroll W None None (field_step k) (field_step-local k) x c h f) ∙ e))
  where
    own : (x : Bytes) (c : ClassFacts) → find_class W x ≡ Some c → (o : Option Member) → own_field_of c k ≡ o → found_in c o ≡ Some m → IsField W k m
    own x c f None p e = absurd (cc)
    own x c f (Some n) p e =
        let g : DeclaredMember = record { owner = c.name; member = n } in
        let q : g ≡ m = cc in
        subst (IsField W k) q (record { class = c; is_there = ap (find_class W) (find-name W x c f) ∙ f; declares = p })

    super : (s : Option Bytes) (is : List Bytes) → EachOf (λ y. field_found W y k ≡ Some m → IsField W k m) (supers_of s is) → and_then (λ y. field_found W y k) s ≡ Some m → IsField W k m
    super None is r e = absurd (cc)
    super (Some y) is r e = r.0 e

    step : (x : Bytes) (c : ClassFacts) → find_class W x ≡ Some c → EachOf (λ y. field_found W y k ≡ Some m → IsField W k m) (supers c)
        → or_else (found_in c (own_field_of c k)) (or_else (first_some (λ y. field_found W y k) c.interfaces) (and_then (λ y. field_found W y k) c.superclass)) ≡ Some m → IsField W k m
    step x c f r e = go (or_else-cases (found_in c (own_field_of c k)) (or_else (first_some (λ y. field_found W y k) c.interfaces) (and_then (λ y. field_found W y k) c.superclass)) m e)
      where
        go2 : (first_some (λ y. field_found W y k) c.interfaces ≡ Some m) ⊎ (and_then (λ y. field_found W y k) c.superclass ≡ Some m) → IsField W k m
        go2 (inl p) = first_some-each W k m (λ y. field_found W y k) c.interfaces (of_interfaces (λ y. field_found W y k ≡ Some m → IsField W k m) c.superclass c.interfaces r) p
        go2 (inr p) = super c.superclass c.interfaces r p

        go : (found_in c (own_field_of c k) ≡ Some m) ⊎ (or_else (first_some (λ y. field_found W y k) c.interfaces) (and_then (λ y. field_found W y k) c.superclass) ≡ Some m) → IsField W k m
        go (inl p) = own x c f (own_field_of c k) refl p
        go (inr p) = go2 (or_else-cases (first_some (λ y. field_found W y k) c.interfaces) (and_then (λ y. field_found W y k) c.superclass) m p)

-- what a client may use of a library class's member, its seat may
pub seat_from_member : (V W : World) (x a t : Bytes) (m : DeclaredMember) → (package_name x ≡ package_name m.owner → ⊥) → in_chain V x m.owner ≡ in_chain W a m.owner → in_chain V x t ≡ in_chain W a t → in_chain V t x ≡ false
    → is_member_accessible V x t m ≡ true → is_member_open W a t m ≡ true
unfolding is_member_accessible
seat_from_member V W x a t m apart eo et back h = last (or_cases (p || b || c) d h)
  where
    p : Bool
    p = public_flag m.member.flags

    b : Bool
    b = in_same_package x m.owner && (protected_flag m.member.flags || package_private m.member.flags)

    c : Bool
    c = protected_flag m.member.flags && in_chain V x m.owner && (static_flag m.member.flags || in_chain V x t || in_chain V t x)

    d : Bool
    d = private_flag m.member.flags && are_nestmates V x m.owner

    right : Bool
    right = protected_flag m.member.flags && in_chain W a m.owner && (static_flag m.member.flags || in_chain W a t)

    without : (s u v : Bool) → v ≡ false → (s || u || v) ≡ true → (s || u) ≡ true
    without s u true e q = absurd (cc)
    without true u false e q = refl
    without false true false e q = refl
    without false false false e q = q

    first : (p ≡ true) ⊎ (b ≡ true) → (p || right) ≡ true
    first (inl q) = or_left p right q
    first (inr q) = absurd (apart (same_is (package_name x) (package_name m.owner) (and_parts (in_same_package x m.owner) (protected_flag m.member.flags || package_private m.member.flags) q).0))

    third : ((p || b) ≡ true) ⊎ (c ≡ true) → (p || right) ≡ true
    third (inl q) = first (or_cases p b q)
    third (inr q) =
        let u = and_parts (protected_flag m.member.flags && in_chain V x m.owner) (static_flag m.member.flags || in_chain V x t || in_chain V t x) q in
        let v = and_parts (protected_flag m.member.flags) (in_chain V x m.owner) u.0 in
        let w : (static_flag m.member.flags || in_chain W a t) ≡ true = ap (λ z. static_flag m.member.flags || z) (sym et) ∙ without (static_flag m.member.flags) (in_chain V x t) (in_chain V t x) back u.1 in
        or_right p right (and_from (protected_flag m.member.flags && in_chain W a m.owner) (static_flag m.member.flags || in_chain W a t) (and_from (protected_flag m.member.flags) (in_chain W a m.owner) v.0 (sym eo ∙ v.1)) w)

    last : ((p || b || c) ≡ true) ⊎ (d ≡ true) → (p || right) ≡ true
    last (inl q) = third (or_cases (p || b) c q)
    last (inr q) = absurd (apart (same_nest-package V x m.owner (and_parts (private_flag m.member.flags) (are_nestmates V x m.owner) q).1))

-- and the other way round
pub member_from_seat : (V W : World) (x a t : Bytes) (m : DeclaredMember) → in_chain V x m.owner ≡ in_chain W a m.owner → in_chain V x t ≡ in_chain W a t → is_member_open W a t m ≡ true → is_member_accessible V x t m ≡ true
unfolding is_member_accessible
member_from_seat V W x a t m eo et h = go (or_cases p right h)
  where
    p : Bool
    p = public_flag m.member.flags

    b : Bool
    b = in_same_package x m.owner && (protected_flag m.member.flags || package_private m.member.flags)

    c : Bool
    c = protected_flag m.member.flags && in_chain V x m.owner && (static_flag m.member.flags || in_chain V x t || in_chain V t x)

    d : Bool
    d = private_flag m.member.flags && are_nestmates V x m.owner

    right : Bool
    right = protected_flag m.member.flags && in_chain W a m.owner && (static_flag m.member.flags || in_chain W a t)

    go : (p ≡ true) ⊎ (right ≡ true) → (p || b || c || d) ≡ true
    go (inl q) = or_left (p || b || c) d (or_left (p || b) c (or_left p b q))
    go (inr q) =
        let u = and_parts (protected_flag m.member.flags && in_chain W a m.owner) (static_flag m.member.flags || in_chain W a t) q in
        let v = and_parts (protected_flag m.member.flags) (in_chain W a m.owner) u.0 in
        let w : (static_flag m.member.flags || in_chain V x t) ≡ true = ap (λ z. static_flag m.member.flags || z) et ∙ u.1 in
        or_left (p || b || c) d (or_right (p || b) c (and_from (protected_flag m.member.flags && in_chain V x m.owner) (static_flag m.member.flags || in_chain V x t || in_chain V t x)
        (and_from (protected_flag m.member.flags) (in_chain V x m.owner) v.0 (eo ∙ v.1)) (or_left (static_flag m.member.flags || in_chain V x t) (in_chain V t x) w)))

-- of library classes, a client and its seat may use the same members
pub member_seat : (V W : World) (x a t : Bytes) (m : DeclaredMember) → (package_name x ≡ package_name m.owner → ⊥) → in_chain V x m.owner ≡ in_chain W a m.owner → in_chain V x t ≡ in_chain W a t → in_chain V t x ≡ false
    → is_member_accessible V x t m ≡ is_member_open W a t m
member_seat V W x a t m apart eo et back = both_ways (is_member_accessible V x t m) (is_member_open W a t m) (seat_from_member V W x a t m apart eo et back) (member_from_seat V W x a t m eo et)
