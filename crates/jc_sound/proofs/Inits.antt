-- A client that can call an initializer of a library class names one that is public or protected.
use Rattle.std.proofs.Common.{◌≡◌, Bool, true, false, cond, List, [], ◌∷◌, refl, sym, ◌∙◌, ap, subst, Option, Some, None, not, ◌||◌, ◌&&◌, ◌⊎◌, inl, inr}
use Rattle.std.proofs.lemmas.Bool.{and_parts, and_from, or_cases, or_left, or_right, not-false}
use Rattle.jc_facts.specs.declared.class_facts.ClassFacts.{ClassFacts}
use Rattle.jc_facts.specs.declared.class_facts.Member.{Member}
use Rattle.jc_facts.specs.declared.key.Key.{Key}
use Rattle.jc_facts.specs.declared.client.Item.TheVariants as item
use Rattle.jc_facts.specs.declared.link_error.LinkError.{LinkError}
use Rattle.jc_facts.specs.declared.link_error.LinkError.TheVariants.{IllegalAccessError, NoSuchMethodError, IncompatibleClassChangeError}
use Rattle.jc_facts.specs.Names.{Bytes, same, package_name, in_same_package, is_key}
use Rattle.jc_desc.specs.Names.{is_init_name}
use Rattle.jc_facts.specs.Flags.{public_flag, private_flag, protected_flag, static_flag, package_private}
use Rattle.jc_facts.specs.world.World.{World, find_class, DeclaredMember, own_method_of}
use Rattle.jc_facts.specs.world.Hierarchy.{in_chain}
use Rattle.jc_facts.specs.world.Access.{is_member_accessible, are_nestmates}
use Rattle.jc_facts.specs.world.Loading.{load_fault, fault_where}
use Rattle.jc_facts.specs.world.Lookup.{method_choices}
use Rattle.jc_facts.specs.world.Assignment.{is_interface_of}
use Rattle.jc_facts.specs.world.Types.{is_array_text}
use Rattle.jc_facts.specs.client.Outcome.{outcome, class_step, first_of, look_up, init_key, init_fault}
use Rattle.jc_promises.specs.rule.Bases.{has_init}
use Rattle.jc_facts.specs.world.Inheritance.{public_or_protected}
use Rattle.jc_lemmas.proofs.Listed.{EachOf}
use Rattle.jc_facts.proofs.Same.{same_is}
use Rattle.jc_worlds.proofs.Above.{fault_where-none}
use Rattle.jc_facts.proofs.Options.{or_else-none}
use Rattle.jc_worlds.proofs.Packages.{same_nest-package}
use Rattle.jc_worlds.proofs.Declared.{IsDeclared, method_choices-declared}
use Rattle.jc_lemmas.proofs.Options.{cond-none}
use Rattle.jc_lemmas.proofs.Lists.{first_where-any, found_passes}

-- what a class of another package may use is public or protected
pub is_member_accessible-apart : (W : World) (x n : Bytes) (m : DeclaredMember) → (package_name x ≡ package_name m.owner → ⊥) → is_member_accessible W x n m ≡ true → public_or_protected m.member ≡ true
unfolding is_member_accessible
is_member_accessible-apart W x n m apart h = last (or_cases (a || b || c) d h)
  where
    a : Bool
    a = public_flag m.member.flags

    b : Bool
    b = in_same_package x m.owner && (protected_flag m.member.flags || package_private m.member.flags)

    c : Bool
    c = protected_flag m.member.flags && in_chain W x m.owner && (static_flag m.member.flags || in_chain W x n || in_chain W n x)

    d : Bool
    d = private_flag m.member.flags && are_nestmates W x m.owner

    protected : protected_flag m.member.flags ≡ true → public_or_protected m.member ≡ true
    protected p = or_right (public_flag m.member.flags) (protected_flag m.member.flags) p

    first : (a ≡ true) ⊎ (b ≡ true) → public_or_protected m.member ≡ true
    first (inl p) = or_left (public_flag m.member.flags) (protected_flag m.member.flags) p
    first (inr p) = absurd (apart (same_is (package_name x) (package_name m.owner) (and_parts (in_same_package x m.owner) (protected_flag m.member.flags || package_private m.member.flags) p).0))

    third : ((a || b) ≡ true) ⊎ (c ≡ true) → public_or_protected m.member ≡ true
    third (inl p) = first (or_cases a b p)
    third (inr p) =
        let q = and_parts (protected_flag m.member.flags && in_chain W x m.owner) (static_flag m.member.flags || in_chain W x n || in_chain W n x) p in
        protected (and_parts (protected_flag m.member.flags) (in_chain W x m.owner) q.0).0

    last : ((a || b || c) ≡ true) ⊎ (d ≡ true) → public_or_protected m.member ≡ true
    last (inl p) = third (or_cases (a || b) c p)
    last (inr p) = absurd (apart (same_nest-package W x m.owner (and_parts (private_flag m.member.flags) (are_nestmates W x m.owner) p).1))

-- an initializer call that is Ok
pub calls_init : (W : World) (x y desc : Bytes) (d : ClassFacts) → find_class W y ≡ Some d → load_fault W y ≡ None → (package_name x ≡ package_name y → ⊥) → outcome W x (item.Init y desc) ≡ None → has_init d public_or_protected ≡ true
unfolding outcome init_fault look_up first_of
calls_init W x y desc d f l apart h = choose (method_choices W y k) refl resolved
  where
    k : Key
    k = init_key desc

    use_it : DeclaredMember → Option LinkError
    use_it m = cond (same m.owner y) (fault_where (not (is_member_accessible W x y m)) IllegalAccessError) (Some NoSuchMethodError)

    resolved : first_of NoSuchMethodError (method_choices W y k) use_it ≡ None
    resolved =
        let a = or_else-none (class_step W x y) (cond (is_array_text y) (Some NoSuchMethodError) (init_fault W y desc (λ m. fault_where (not (is_member_accessible W x y m)) IllegalAccessError))) h in
        let b = cond-none (is_array_text y) NoSuchMethodError (init_fault W y desc (λ m. fault_where (not (is_member_accessible W x y m)) IllegalAccessError)) a.1 in
        (cond-none (is_interface_of W y) IncompatibleClassChangeError (first_of NoSuchMethodError (method_choices W y k) use_it) b.1).1

    used : (m : DeclaredMember) → (b : Bool) → same m.owner y ≡ b → cond b (fault_where (not (is_member_accessible W x y m)) IllegalAccessError) (Some NoSuchMethodError) ≡ None → (m.owner ≡ y) × (is_member_accessible W x y m ≡ true)
    used m true e q = (same_is m.owner y e, not-false (is_member_accessible W x y m) (fault_where-none (not (is_member_accessible W x y m)) IllegalAccessError q))
    used m false e q = absurd (cc)

    declared : (m : DeclaredMember) → IsDeclared W k m → m.owner ≡ y → own_method_of d k ≡ Some m.member
    declared m i o =
        let q : Some i.class ≡ Some d = sym i.is_there ∙ ap (find_class W) o ∙ f in
        let e : i.class ≡ d = cc in
        subst (λ c. own_method_of c k ≡ Some m.member) e i.declares

    named : (m : Member) → is_key k m ≡ true → is_init_name m.name ≡ true
    named m h = (and_parts (same m.name k.name) (same m.descriptor k.descriptor) h).0

    choose : (ms : List DeclaredMember) → method_choices W y k ≡ ms → first_of NoSuchMethodError ms use_it ≡ None → has_init d public_or_protected ≡ true
    choose [] e q = absurd (cc)
    choose (m ∷ ms) e q =
        let i : EachOf (IsDeclared W k) (m ∷ ms) = subst (EachOf (IsDeclared W k)) e (method_choices-declared W y k l) in
        let u = used m (same m.owner y) refl q in
        let own = declared m i.0 u.0 in
        let ok = is_member_accessible-apart W x y m (λ p. apart (p ∙ ap package_name u.0)) u.1 in
        first_where-any (is_key k) (λ n. is_init_name n.name && public_or_protected n) d.methods m.member own
        (and_from (is_init_name m.member.name) (public_or_protected m.member) (named m.member (found_passes (is_key k) d.methods m.member own)) ok)
