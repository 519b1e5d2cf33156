-- What a valid class says of the names and descriptors of its members.
use Rattle.std.proofs.Common.{◌≡◌, ◌≤◌, ◌+◌, Bool, true, false, cond, not, ◌&&◌, ◌||◌, Option, Some, None, refl, subst, arith, nat_le, min}
use Rattle.std.specs.Prelude.{is_some}
use Rattle.std.proofs.lemmas.Bool.{and_parts, leb-true}
use Rattle.jc_desc.specs.Names.{spells_member_name, is_init_name}
use Rattle.jc_desc.specs.Pool.{no_result}
use Rattle.jc_desc.specs.Reading.{field_of, method_of, slots_of_method}
use Rattle.jc_desc.specs.Types.{TypeOf, Method, slots_of}
use Rattle.jc_desc.specs.Utf8.{is_modified_utf8}
use Rattle.jc_facts.specs.declared.class_facts.ClassFacts.{ClassFacts}
use Rattle.jc_facts.specs.declared.class_facts.Member.{Member}
use Rattle.jc_facts.specs.declared.key.Key.{Key}
use Rattle.jc_facts.specs.Flags.{static_flag}
use Rattle.jc_facts.specs.Names.{Bytes, is_key, key_of}
use Rattle.jc_facts.specs.file.Rules.{field_descriptor_fits, method_descriptor_fits, slots_fit_in, field_flags_fit, method_flags_fit}
use Rattle.jc_facts.specs.file.Valid.{IsValidClass, field_is_valid, method_is_valid}
use Rattle.jc_facts.specs.world.World.{own_field_of, own_method_of}
use Rattle.jc_worlds.proofs.Inherited.{found_all}
use Rattle.jc_lemmas.proofs.Lists.{found_passes}
use Rattle.jc_facts.proofs.KeySets.{key-same}

-- the key of a method of a valid class
pub record IsMethodKey (k : Key) : Type 0 where
  pub named : spells_member_name k.name true ≡ true
  pub text : is_modified_utf8 k.name ≡ true
  pub spelled : is_modified_utf8 k.descriptor ≡ true
  pub method : Method
  pub is : method_of k.descriptor ≡ Some method
  pub slots : slots_of method.params ≤ 255
  pub nothing : (not (is_init_name k.name) || no_result (Some method)) ≡ true

-- the key of a field of one
pub record IsFieldKey (k : Key) : Type 0 where
  pub named : spells_member_name k.name false ≡ true
  pub text : is_modified_utf8 k.name ≡ true
  pub spelled : is_modified_utf8 k.descriptor ≡ true
  pub type : TypeOf
  pub is : field_of k.descriptor ≡ Some type

type_is : (o : Option TypeOf) → is_some o ≡ true → (t : TypeOf) × (o ≡ Some t)
type_is None h = absurd (let z : false ≡ true = h in cc)
type_is (Some t) h = (t, refl)

-- the slots of a descriptor that fits, and of the object
slots_are : (instance : Bool) (d : Bytes) (o : Option Method) → method_of d ≡ o → slots_fit_in instance (slots_of_method d) ≡ true → (m : Method) × (o ≡ Some m) × (slots_of m.params + cond instance 1 0 ≤ 255)
unfolding slots_of_method
slots_are instance d None e h = absurd (let z : false ≡ true = (rw e at h) in cc)
slots_are instance d (Some m) e h =
    let z : nat_le (min (slots_of m.params) 4294967295 + cond instance 1 0) 255 ≡ true = (rw e at h) in
    (m, refl, omega (arith, leb-true (min (slots_of m.params) 4294967295 + cond instance 1 0) 255 z))

-- an instance method has one slot left for the object
pub method_slots : (c : ClassFacts) (m : Member) → method_is_valid c m ≡ true → static_flag m.flags ≡ false → (t : Method) × (method_of m.descriptor ≡ Some t) × (slots_of t.params ≤ 254)
method_slots c m h s =
    let v4 = and_parts (spells_member_name m.name true && is_modified_utf8 m.name && method_descriptor_fits m.name m.flags m.descriptor && is_modified_utf8 m.descriptor) (method_flags_fit c.major c.flags m.name m.flags) h in
    let v3 = and_parts (spells_member_name m.name true && is_modified_utf8 m.name && method_descriptor_fits m.name m.flags m.descriptor) (is_modified_utf8 m.descriptor) v4.0 in
    let v2 = and_parts (spells_member_name m.name true && is_modified_utf8 m.name) (method_descriptor_fits m.name m.flags m.descriptor) v3.0 in
    let d = and_parts (slots_fit_in (not (static_flag m.flags)) (slots_of_method m.descriptor)) (not (is_init_name m.name) || no_result (method_of m.descriptor)) v2.1 in
    let f : slots_fit_in true (slots_of_method m.descriptor) ≡ true = subst (λ b. slots_fit_in (not b) (slots_of_method m.descriptor) ≡ true) s d.0 in
    let w = slots_are true m.descriptor (method_of m.descriptor) refl f in
    (w.0, w.1, omega (arith, w.2))

pub method_key : (c : ClassFacts) (m : Member) → method_is_valid c m ≡ true → IsMethodKey (key_of m)
method_key c m h =
    let v4 = and_parts (spells_member_name m.name true && is_modified_utf8 m.name && method_descriptor_fits m.name m.flags m.descriptor && is_modified_utf8 m.descriptor) (method_flags_fit c.major c.flags m.name m.flags) h in
    let v3 = and_parts (spells_member_name m.name true && is_modified_utf8 m.name && method_descriptor_fits m.name m.flags m.descriptor) (is_modified_utf8 m.descriptor) v4.0 in
    let v2 = and_parts (spells_member_name m.name true && is_modified_utf8 m.name) (method_descriptor_fits m.name m.flags m.descriptor) v3.0 in
    let v1 = and_parts (spells_member_name m.name true) (is_modified_utf8 m.name) v2.0 in
    let d = and_parts (slots_fit_in (not (static_flag m.flags)) (slots_of_method m.descriptor)) (not (is_init_name m.name) || no_result (method_of m.descriptor)) v2.1 in
    let w = slots_are (not (static_flag m.flags)) m.descriptor (method_of m.descriptor) refl d.0 in
    record {
      named = v1.0;
      text = v1.1;
      spelled = v3.1;
      method = w.0;
      is = w.1;
      slots = omega (arith, w.2);
      nothing = subst (λ (o : Option Method). (not (is_init_name m.name) || no_result o) ≡ true) w.1 d.1;
    }

pub field_key : (c : ClassFacts) (m : Member) → field_is_valid c m ≡ true → IsFieldKey (key_of m)
field_key c m h =
    let v4 = and_parts (spells_member_name m.name false && is_modified_utf8 m.name && field_descriptor_fits m.descriptor && is_modified_utf8 m.descriptor) (field_flags_fit c.flags m.flags) h in
    let v3 = and_parts (spells_member_name m.name false && is_modified_utf8 m.name && field_descriptor_fits m.descriptor) (is_modified_utf8 m.descriptor) v4.0 in
    let v2 = and_parts (spells_member_name m.name false && is_modified_utf8 m.name) (field_descriptor_fits m.descriptor) v3.0 in
    let v1 = and_parts (spells_member_name m.name false) (is_modified_utf8 m.name) v2.0 in
    let t = type_is (field_of m.descriptor) v2.1 in
    record { named = v1.0; text = v1.1; spelled = v3.1; type = t.0; is = t.1 }

-- ---- declared keys

pub declared_method : (c : ClassFacts) (k : Key) (m : Member) → IsValidClass c → own_method_of c k ≡ Some m → (method_is_valid c m ≡ true) × (key_of m ≡ k)
declared_method c k m v o = (found_all (is_key k) (method_is_valid c) c.methods m o v.methods, key-same k m (found_passes (is_key k) c.methods m o))

pub declared_field : (c : ClassFacts) (k : Key) (m : Member) → IsValidClass c → own_field_of c k ≡ Some m → (field_is_valid c m ≡ true) × (key_of m ≡ k)
declared_field c k m v o = (found_all (is_key k) (field_is_valid c) c.fields m o v.fields, key-same k m (found_passes (is_key k) c.fields m o))

pub declared_method_key : (c : ClassFacts) (k : Key) (m : Member) → IsValidClass c → own_method_of c k ≡ Some m → IsMethodKey k
declared_method_key c k m v o = let d = declared_method c k m v o in subst IsMethodKey d.1 (method_key c m d.0)

pub declared_field_key : (c : ClassFacts) (k : Key) (m : Member) → IsValidClass c → own_field_of c k ≡ Some m → IsFieldKey k
declared_field_key c k m v o = let d = declared_field c k m v o in subst IsFieldKey d.1 (field_key c m d.0)
