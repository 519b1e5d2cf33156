-- Where no finding stands and no new constant is met, each use of a field by a client that was Ok is Ok still.
use Rattle.std.proofs.Common.{◌≡◌, true, false, List, [], ◌∷◌, refl, sym, ◌∙◌, ap, subst, Option, Some, None, not, ◌||◌, ◌&&◌, ◌⊎◌, inl, inr}
use Rattle.std.proofs.lemmas.Bool.{and_parts}
use Rattle.jc_facts.specs.declared.class_facts.ClassFacts.{ClassFacts}
use Rattle.jc_facts.specs.declared.class_facts.Member.{Member}
use Rattle.jc_facts.specs.declared.key.Key.{Key}
use Rattle.jc_facts.specs.Names.{Bytes, same, object_name, is_key}
use Rattle.jc_facts.specs.Flags.{public_flag, protected_flag, static_flag, final_flag, interface_flag}
use Rattle.jc_facts.specs.world.World.{World, find_class, DeclaredMember, own_field_of, found_in}
use Rattle.jc_facts.specs.Options.{or_else, first_some, and_then}
use Rattle.jc_facts.specs.world.Loading.{load_fault, fault_of_itself, fault_of_interface}
use Rattle.jc_facts.specs.world.Lookup.{field_found, field_step}
use Rattle.jc_facts.specs.world.Assignment.{is_interface_of}
use Rattle.jc_facts.specs.file.Valid.{IsValidClass}
use Rattle.jc_worlds.proofs.ValidFacts.{field_fits, superclass_fits, has_one_access, fit_of}
use Rattle.jc_lemmas.proofs.Listed.{EachOf, EachOf-both}
use Rattle.jc_facts.proofs.Same.{same_is}
use Rattle.jc_worlds.proofs.Above.{named_interfaces, named_interface}
use Rattle.jc_worlds.proofs.Loaded.{loads-parts, loads-induction, loads-found, unroll}
use Rattle.jc_worlds.proofs.Locality.{field_step-local, of_interfaces}
use Rattle.jc_worlds.proofs.Inherited.{found_all, one_access}
use Rattle.jc_worlds.proofs.FieldActs.{IsField}
use Rattle.jc_facts.proofs.Options.{or_else-cases}
use Rattle.jc_lemmas.proofs.Bools.{imply}

pub record IsConstant (m : DeclaredMember) : Type 0 where
  pub public : public_flag m.member.flags ≡ true
  pub protected : protected_flag m.member.flags ≡ false
  pub static : static_flag m.member.flags ≡ true
  pub final : final_flag m.member.flags ≡ true

pub interface_field : (c : ClassFacts) (n : Bytes) (m : Member) → field_fits c m ≡ true → interface_flag c.flags ≡ true → IsConstant (record { owner = n; member = m })
interface_field c n m v i =
    let a = and_parts (has_one_access m.flags) (not (interface_flag c.flags) || (public_flag m.flags && static_flag m.flags && final_flag m.flags)) v in
    let e = imply (interface_flag c.flags) (public_flag m.flags && static_flag m.flags && final_flag m.flags) a.1 i in
    let f = and_parts (public_flag m.flags && static_flag m.flags) (final_flag m.flags) e in
    let h = and_parts (public_flag m.flags) (static_flag m.flags) f.0 in
    record { public = h.0; protected = one_access (public_flag m.flags) (protected_flag m.flags) a.0 h.0; static = h.1; final = f.1 }

pub field_one_access : (c : ClassFacts) (m : Member) → field_fits c m ≡ true → public_flag m.flags ≡ true → protected_flag m.flags ≡ false
field_one_access c m v p =
    let a = and_parts (has_one_access m.flags) (not (interface_flag c.flags) || (public_flag m.flags && static_flag m.flags && final_flag m.flags)) v in
    one_access (public_flag m.flags) (protected_flag m.flags) a.0 p

-- a field that a lookup finds is valid in its class
pub field_is_valid : (W : World) → ((x : Bytes) (c : ClassFacts) → find_class W x ≡ Some c → IsValidClass c) → (k : Key) (m : DeclaredMember) (i : IsField W k m) → field_fits i.class m.member ≡ true
field_is_valid W valid k m i = found_all (is_key k) (field_fits i.class) i.class.fields m.member i.declares (fit_of i.class (valid m.owner i.class i.is_there)).fields

-- the fields that an interface finds are constants
pub interface_fields : (W : World) → ((x : Bytes) (c : ClassFacts) → find_class W x ≡ Some c → IsValidClass c) → (k : Key) → field_found W object_name k ≡ None
    → (y : Bytes) → load_fault W y ≡ None → is_interface_of W y ≡ true → (m : DeclaredMember) → field_found W y k ≡ Some m → IsConstant m
unfolding field_found field_step fault_of_itself first_some and_then found_in or_else
interface_fields W valid k root = loads-induction W (λ y. is_interface_of W y ≡ true → (m : DeclaredMember) → field_found W y k ≡ Some m → IsConstant m) (λ y c f h r i m e.
    let p = loads-parts W y c f h in
    let j : interface_flag c.flags ≡ true = rw f at i in
    step y c f j m (EachOf-both (λ z u v. u v) c.interfaces (of_interfaces (λ z. is_interface_of W z ≡ true → (m : DeclaredMember) → field_found W z k ≡ Some m → IsConstant m) c.superclass c.interfaces r) (EachOf-both (kind c) c.interfaces (named_interfaces W c p.1) (of_interfaces (λ s. load_fault W s ≡ None) c.superclass c.interfaces p.0)))
    (sym (unroll W None None (field_step k) (field_step-local k) y c h f) ∙ e))
  where
    kind : (c : ClassFacts) (z : Bytes) → fault_of_interface W c z ≡ None → load_fault W z ≡ None → is_interface_of W z ≡ true
    kind c z f l = let t = loads-found W z l in let q : interface_flag t.0.flags ≡ true = named_interface W c t.0 z f t.1 in rw t.1 q

    first : (m : DeclaredMember) (xs : List Bytes) → EachOf (λ z. (m : DeclaredMember) → field_found W z k ≡ Some m → IsConstant m) xs → first_some (λ z. field_found W z k) xs ≡ Some m → IsConstant m
    first m [] h e = absurd (cc)
    first m (z ∷ zs) h e = go (or_else-cases (field_found W z k) (first_some (λ z. field_found W z k) zs) m e) (first m zs h.1)
      where
        go : (field_found W z k ≡ Some m) ⊎ (first_some (λ z. field_found W z k) zs ≡ Some m) → (first_some (λ z. field_found W z k) zs ≡ Some m → IsConstant m) → IsConstant m
        go (inl p) r = h.0 m p
        go (inr p) r = r p

    super : (c : ClassFacts) (o : Option Bytes) → superclass_fits c o ≡ true → interface_flag c.flags ≡ true → (m : DeclaredMember) → and_then (λ z. field_found W z k) o ≡ Some m → ⊥
    super c None v i m e = cc
    super c (Some s) v i m e =
        let p = and_parts (not (same c.name object_name)) (not (interface_flag c.flags) || same s object_name) v in
        let q : s ≡ object_name = same_is s object_name (imply (interface_flag c.flags) (same s object_name) p.1 i) in
        let n : field_found W s k ≡ None = ap (λ z. field_found W z k) q ∙ root in
        let w : field_found W s k ≡ Some m = e in cc

    own : (y : Bytes) (c : ClassFacts) → find_class W y ≡ Some c → interface_flag c.flags ≡ true → (m : DeclaredMember) → (o : Option Member) → own_field_of c k ≡ o → found_in c o ≡ Some m → IsConstant m
    own y c f i m None e q = absurd (cc)
    own y c f i m (Some n) e q =
        let g : DeclaredMember = record { owner = c.name; member = n } in
        let w : g ≡ m = cc in
        subst IsConstant w (interface_field c c.name n (found_all (is_key k) (field_fits c) c.fields n e (fit_of c (valid y c f)).fields) i)

    step : (y : Bytes) (c : ClassFacts) → find_class W y ≡ Some c → interface_flag c.flags ≡ true → (m : DeclaredMember) → EachOf (λ z. (m : DeclaredMember) → field_found W z k ≡ Some m → IsConstant m) c.interfaces
        → or_else (found_in c (own_field_of c k)) (or_else (first_some (λ y. field_found W y k) c.interfaces) (and_then (λ y. field_found W y k) c.superclass)) ≡ Some m → IsConstant m
    step y c f i m r e = go (or_else-cases (found_in c (own_field_of c k)) (or_else (first_some (λ y. field_found W y k) c.interfaces) (and_then (λ y. field_found W y k) c.superclass)) m e)
      where
        go2 : (first_some (λ y. field_found W y k) c.interfaces ≡ Some m) ⊎ (and_then (λ y. field_found W y k) c.superclass ≡ Some m) → IsConstant m
        go2 (inl p) = first m c.interfaces r p
        go2 (inr p) = absurd (super c c.superclass (fit_of c (valid y c f)).superclass i m p)

        go : (found_in c (own_field_of c k) ≡ Some m) ⊎ (or_else (first_some (λ y. field_found W y k) c.interfaces) (and_then (λ y. field_found W y k) c.superclass) ≡ Some m) → IsConstant m
        go (inl p) = own y c f i m (own_field_of c k) refl p
        go (inr p) = go2 (or_else-cases (first_some (λ y. field_found W y k) c.interfaces) (and_then (λ y. field_found W y k) c.superclass) m p)
