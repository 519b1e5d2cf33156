-- What the laws use of a valid record, and nothing more.
use Rattle.std.proofs.Common.{◌≡◌, ℕ, Bool, true, false, List, [], ◌∷◌, Option, Some, None, not, ◌||◌, ◌&&◌, nat_le, ◌+◌, ◌==◌, refl, subst}
use Rattle.std.proofs.lemmas.Map.Views.{exact_unsigned_eq}
use Rattle.std.proofs.lemmas.Bool.{and_parts, and_from}
use Rattle.std.specs.List.{list_all, list_any}
use Rattle.std.proofs.Math.Bool.{or-true}
use Rattle.jc_desc.specs.Reading.{slots_of_method, method_of}
use Rattle.jc_desc.specs.Pool.{no_result}
use Rattle.jc_desc.specs.Names.{spells_class_name, spells_member_name, is_init_name, is_clinit_name}
use Rattle.jc_desc.specs.Utf8.{is_modified_utf8}
use Rattle.jc_facts.specs.declared.class_facts.ClassFacts.{ClassFacts}
use Rattle.jc_facts.specs.declared.class_facts.Member.{Member}
use Rattle.jc_facts.specs.declared.key.Key.{Key}
use Rattle.jc_facts.specs.Names.{Bytes, same, is_key, key_of, same_key, object_name}
use Rattle.jc_facts.specs.Flags.{interface_flag, public_flag, private_flag, protected_flag, static_flag, final_flag, volatile_flag, native_flag, abstract_flag}
use Rattle.jc_facts.specs.world.Types.{is_array_text}
use Rattle.jc_facts.specs.Options.{some_and}
use Rattle.jc_facts.specs.file.Rules.{field_descriptor_fits, method_descriptor_fits, one_access_at_most, apart, implies, field_flags_fit, method_flags_fit, plain_method_flags_fit, slots_fit_in}
use Rattle.jc_facts.proofs.Same.{same_is, same_itself}
use Rattle.jc_facts.specs.file.Valid.{IsValidClass, is_valid_name, superclass_is_valid, field_is_valid, method_is_valid, has_key, keys_of, keys_differ}
use Rattle.jc_lemmas.proofs.Bools.{or_under}

-- only java/lang/Object has no superclass, and that of an interface is java/lang/Object
abbrev pub superclass_fits : ClassFacts → Option Bytes → Bool
superclass_fits c None = same c.name object_name
superclass_fits c (Some s) = not (same c.name object_name) && (not (interface_flag c.flags) || same s object_name)

-- not both public and protected
abbrev pub has_one_access : ℕ → Bool
has_one_access f = not (public_flag f && protected_flag f)

-- a field of an interface is public, static and final
abbrev pub field_fits : ClassFacts → Member → Bool
field_fits c m = has_one_access m.flags && (not (interface_flag c.flags) || (public_flag m.flags && static_flag m.flags && final_flag m.flags))

-- the slots of an instance method fit, and a method of an interface is public or private
abbrev pub method_fits : ClassFacts → Member → Bool
method_fits c m =
    (static_flag m.flags || some_and (λ n. nat_le (n + 1) 255) (slots_of_method m.descriptor))
    && (is_clinit_name m.name || (has_one_access m.flags && (not (interface_flag c.flags) || (public_flag m.flags || private_flag m.flags))))

-- no member has the key of a later one
abbrev pub members_differ : List Member → Bool
members_differ [] = true
members_differ (m ∷ ms) = not (list_any (is_key (key_of m)) ms) && members_differ ms

pub record IsFit (c : ClassFacts) : Type 0 where
  pub name : is_array_text c.name ≡ false
  pub superclass : superclass_fits c c.superclass ≡ true
  pub fields : list_all (field_fits c) c.fields ≡ true
  pub methods : list_all (method_fits c) c.methods ≡ true
  pub methods_differ : members_differ c.methods ≡ true

-- ---- each from validity

list_all-implies : (p q : Member → Bool) → ((m : Member) → p m ≡ true → q m ≡ true) → (ms : List Member) → list_all p ms ≡ true → list_all q ms ≡ true
list_all-implies p q f [] h = refl
list_all-implies p q f (m ∷ ms) h =
    let d = and_parts (p m) (list_all p ms) h in
    and_from (q m) (list_all q ms) (f m d.0) (list_all-implies p q f ms d.1)

-- a class name is no array
pub no_array : (x : Bytes) → spells_class_name x ≡ true → is_array_text x ≡ false
no_array [] h = refl
no_array (b ∷ bs) h = go (b == 91) refl
  where
    never : false ≡ true → ⊥
    never q = cc

    go : (q : Bool) → (b == 91) ≡ q → q ≡ false
    go false e = refl
    go true e = absurd (never (subst (λ c. spells_class_name (c ∷ bs) ≡ true) (exact_unsigned_eq b 91 e) h))

superclass_of : (c : ClassFacts) (o : Option Bytes) → superclass_is_valid c o ≡ true → superclass_fits c o ≡ true
superclass_of c None h = h
superclass_of c (Some s) h =
    let a = and_parts (is_valid_name s && not (same c.name object_name)) (not (interface_flag c.flags) || same s object_name) h in
    let b = and_parts (is_valid_name s) (not (same c.name object_name)) a.0 in
    and_from (not (same c.name object_name)) (not (interface_flag c.flags) || same s object_name) b.1 a.1

-- of the three tests in one_access_at_most
one_access_of : (p q r : Bool) → (not (p && q) && not (p && r) && not (q && r)) ≡ true → not (p && r) ≡ true
one_access_of p q r h =
    let a = and_parts (not (p && q) && not (p && r)) (not (q && r)) h in
    let b = and_parts (not (p && q)) (not (p && r)) a.0 in b.1

field_of_valid : (c : ClassFacts) (m : Member) → field_is_valid c m ≡ true → field_fits c m ≡ true
field_of_valid c m h =
    let a = and_parts (spells_member_name m.name false && is_modified_utf8 m.name && field_descriptor_fits m.descriptor && is_modified_utf8 m.descriptor) (field_flags_fit c.flags m.flags) h in
    let b = and_parts (one_access_at_most m.flags && apart (final_flag m.flags) (volatile_flag m.flags)) (implies (interface_flag c.flags) (public_flag m.flags && static_flag m.flags && final_flag m.flags)) a.1 in
    let d = and_parts (one_access_at_most m.flags) (apart (final_flag m.flags) (volatile_flag m.flags)) b.0 in
    and_from (has_one_access m.flags) (not (interface_flag c.flags) || (public_flag m.flags && static_flag m.flags && final_flag m.flags))
    (one_access_of (public_flag m.flags) (private_flag m.flags) (protected_flag m.flags) d.0) b.1

slots_of_valid : (s : Bool) (o : Option ℕ) → slots_fit_in (not s) o ≡ true → (s || some_and (λ n. nat_le (n + 1) 255) o) ≡ true
slots_of_valid true o h = refl
slots_of_valid false None h = h
slots_of_valid false (Some n) h = h

imply_first : (i a b : Bool) → (not i || (a && b)) ≡ true → (not i || a) ≡ true
imply_first false a b h = refl
imply_first true a b h = let d = and_parts a b h in d.0

flags_of_valid : (c : ClassFacts) (m : Member) → plain_method_flags_fit c.major c.flags m.name m.flags ≡ true → (has_one_access m.flags && (not (interface_flag c.flags) || (public_flag m.flags || private_flag m.flags))) ≡ true
flags_of_valid c m h =
    let f = m.flags in
    let rest = (nat_le 52 c.major || (public_flag f && abstract_flag f)) in
    let a = and_parts (one_access_at_most f && implies (abstract_flag f) (not (private_flag f || static_flag f || final_flag f || native_flag f))
    && implies (is_init_name m.name) (not (static_flag f || final_flag f || native_flag f || abstract_flag f)))
    (implies (interface_flag c.flags) ((public_flag f || private_flag f) && rest)) h in
    let b = and_parts (one_access_at_most f && implies (abstract_flag f) (not (private_flag f || static_flag f || final_flag f || native_flag f)))
    (implies (is_init_name m.name) (not (static_flag f || final_flag f || native_flag f || abstract_flag f))) a.0 in
    let d = and_parts (one_access_at_most f) (implies (abstract_flag f) (not (private_flag f || static_flag f || final_flag f || native_flag f))) b.0 in
    and_from (has_one_access f) (not (interface_flag c.flags) || (public_flag f || private_flag f))
    (one_access_of (public_flag f) (private_flag f) (protected_flag f) d.0)
    (imply_first (interface_flag c.flags) (public_flag f || private_flag f) rest a.1)

method_of_valid : (c : ClassFacts) (m : Member) → method_is_valid c m ≡ true → method_fits c m ≡ true
method_of_valid c m h =
    let a = and_parts (spells_member_name m.name true && is_modified_utf8 m.name && method_descriptor_fits m.name m.flags m.descriptor && is_modified_utf8 m.descriptor)
    (method_flags_fit c.major c.flags m.name m.flags) h in
    let b = and_parts (spells_member_name m.name true && is_modified_utf8 m.name && method_descriptor_fits m.name m.flags m.descriptor) (is_modified_utf8 m.descriptor) a.0 in
    let d = and_parts (spells_member_name m.name true && is_modified_utf8 m.name) (method_descriptor_fits m.name m.flags m.descriptor) b.0 in
    let e = and_parts (slots_fit_in (not (static_flag m.flags)) (slots_of_method m.descriptor)) (implies (is_init_name m.name) (no_result (method_of m.descriptor))) d.1 in
    and_from (static_flag m.flags || some_and (λ n. nat_le (n + 1) 255) (slots_of_method m.descriptor))
    (is_clinit_name m.name || (has_one_access m.flags && (not (interface_flag c.flags) || (public_flag m.flags || private_flag m.flags))))
    (slots_of_valid (static_flag m.flags) (slots_of_method m.descriptor) e.0)
    (or_under (is_clinit_name m.name) (plain_method_flags_fit c.major c.flags m.name m.flags) _ (flags_of_valid c m) a.1)

not_any : (b d : Bool) → (d ≡ true → b ≡ true) → not b ≡ true → not d ≡ true
not_any true d f h = absurd (cc)
not_any false true f h = let e = f refl in absurd (cc)
not_any false false f h = refl

or_into : (a b a' b' : Bool) → (a ≡ true → a' ≡ true) → (b ≡ true → b' ≡ true) → (a || b) ≡ true → (a' || b') ≡ true
or_into true b a' b' f g h = let e : a' ≡ true = f refl in rw e refl
or_into false b a' b' f g h = let e : b' ≡ true = g h in rw e (or-true a')

same_back : (x y : Bytes) → same x y ≡ true → same y x ≡ true
same_back x y h = subst (λ z. same z x ≡ true) (same_is x y h) (same_itself x)

key_back : (k : Key) (w : Member) → is_key k w ≡ true → same_key k (key_of w) ≡ true
key_back k w h =
    let a = and_parts (same w.name k.name) (same w.descriptor k.descriptor) h in
    and_from (same k.name w.name) (same k.descriptor w.descriptor) (same_back w.name k.name a.0) (same_back w.descriptor k.descriptor a.1)

key_stands : (k : Key) (ws : List Member) → list_any (is_key k) ws ≡ true → has_key k (keys_of ws) ≡ true
key_stands k [] e = e
key_stands k (w ∷ ws) e = or_into (is_key k w) (list_any (is_key k) ws) (same_key k (key_of w)) (has_key k (keys_of ws)) (key_back k w) (key_stands k ws) e

differ_of_valid : (ms : List Member) → keys_differ (keys_of ms) ≡ true → members_differ ms ≡ true
differ_of_valid [] h = refl
differ_of_valid (m ∷ ms) h =
    let a = and_parts (not (has_key (key_of m) (keys_of ms))) (keys_differ (keys_of ms)) h in
    and_from (not (list_any (is_key (key_of m)) ms)) (members_differ ms)
    (not_any (has_key (key_of m) (keys_of ms)) (list_any (is_key (key_of m)) ms) (key_stands (key_of m) ms) a.0)
    (differ_of_valid ms a.1)

pub fit_of : (c : ClassFacts) → IsValidClass c → IsFit c
fit_of c v = record {
  name = let a = and_parts (spells_class_name c.name) (is_modified_utf8 c.name) v.name in no_array c.name a.0;
  superclass = superclass_of c c.superclass v.superclass;
  fields = list_all-implies (field_is_valid c) (field_fits c) (field_of_valid c) c.fields v.fields;
  methods = list_all-implies (method_is_valid c) (method_fits c) (method_of_valid c) c.methods v.methods;
  methods_differ = differ_of_valid c.methods v.methods_differ;
}
