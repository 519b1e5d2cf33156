-- Valid class records (JVMS 4.1, 4.2, 4.5, 4.6, 4.7.2, 4.7.9, 4.7.28, 4.7.29, 4.7.31).
--     IsValidClass c      the record meets every rule
use Rattle.std.specs.Prelude.{ℕ, Bool, true, false, not, List, [], ◌∷◌, ◌++◌, map, filter, count_by, Option, None, Some, is_none, ◌||◌, ◌&&◌, nat_le, IsTrue}
use Rattle.std.specs.List.{list_any, list_all}
use Rattle.jc_desc.specs.declared.versions.TheConstants.{NEST_MAJOR, SEAL_MAJOR}
use Rattle.jc_desc.specs.Names.{spells_class_name, spells_member_name}
use Rattle.jc_desc.specs.Utf8.{is_modified_utf8}
use Rattle.jc_facts.specs.declared.class_facts.ClassFacts.{ClassFacts}
use Rattle.jc_facts.specs.declared.class_facts.Member.{Member}
use Rattle.jc_facts.specs.declared.key.Key.{Key}
use Rattle.jc_facts.specs.declared.class_facts.Fixed.{Fixed}
use Rattle.jc_facts.specs.declared.class_facts.Signed.{Signed}
use Rattle.jc_facts.specs.declared.class_facts.Constant.{Constant}
use Rattle.jc_facts.specs.declared.class_facts.Constant.TheVariants as constants
use Rattle.jc_facts.specs.Flags.{static_flag, interface_flag}
use Rattle.jc_facts.specs.Names.{Bytes, same_key, key_of}
use Rattle.jc_facts.specs.file.Rules.{is_object_name, implies, class_flags_fit, field_flags_fit, method_flags_fit, field_descriptor_fits, method_descriptor_fits}

-- ---- keys

-- the key stands in the list
abbrev pub has_key : Key → List Key → Bool
has_key k ls = list_any (same_key k) ls

-- no key stands twice
abbrev pub keys_differ : List Key → Bool
keys_differ [] = true
keys_differ (k ∷ ks) = not (has_key k ks) && keys_differ ks

abbrev pub keys_of : List Member → List Key
keys_of ms = map key_of ms

-- ---- the class (JVMS 4.1, 4.2.1)

-- a class name in modified UTF-8
abbrev pub is_valid_name : Bytes → Bool
is_valid_name x = spells_class_name x && is_modified_utf8 x

-- only java/lang/Object has no superclass, and that of an interface is java/lang/Object
abbrev pub superclass_is_valid : ClassFacts → Option Bytes → Bool
superclass_is_valid c None = is_object_name c.name
superclass_is_valid c (Some s) = is_valid_name s && not (is_object_name c.name) && implies (interface_flag c.flags) (is_object_name s)

-- ---- members (JVMS 4.2.2, 4.3, 4.5, 4.6)

abbrev pub field_is_valid : ClassFacts → Member → Bool
field_is_valid c m =
    spells_member_name m.name false && is_modified_utf8 m.name
    && field_descriptor_fits m.descriptor && is_modified_utf8 m.descriptor
    && field_flags_fit c.flags m.flags

abbrev pub method_is_valid : ClassFacts → Member → Bool
method_is_valid c m =
    spells_member_name m.name true && is_modified_utf8 m.name
    && method_descriptor_fits m.name m.flags m.descriptor && is_modified_utf8 m.descriptor
    && method_flags_fit c.major c.flags m.name m.flags

-- ---- what attributes say

-- only from major 61 on (JVMS 4.7.31)
abbrev pub permits_are_valid : ℕ → Option (List Bytes) → Bool
permits_are_valid major None = true
permits_are_valid major (Some names) = nat_le SEAL_MAJOR major && list_all is_valid_name names

-- only from major 55 on (JVMS 4.7.28)
abbrev pub nest_host_is_valid : ℕ → Option Bytes → Bool
nest_host_is_valid major None = true
nest_host_is_valid major (Some name) = nat_le NEST_MAJOR major && is_valid_name name

-- only from major 55 on (JVMS 4.7.29)
abbrev pub nest_members_are_valid : ℕ → List Bytes → Bool
nest_members_are_valid major [] = true
nest_members_are_valid major (name ∷ names) = nat_le NEST_MAJOR major && list_all is_valid_name (name ∷ names)

abbrev pub value_is_valid : Constant → Bool
value_is_valid (constants.Text t) = is_modified_utf8 t
value_is_valid (constants.Int n) = true
value_is_valid (constants.Float n) = true
value_is_valid (constants.Long n) = true
value_is_valid (constants.Double n) = true

-- of a static field (JVMS 4.7.2)
abbrev pub keys_of_statics : List Member → List Key
keys_of_statics fields = keys_of (filter (λ m. static_flag m.flags) fields)

abbrev pub is_valid_constant : ClassFacts → Fixed → Bool
is_valid_constant c f = has_key f.key (keys_of_statics c.fields) && value_is_valid f.value

abbrev pub keys_of_constants : List Fixed → List Key
keys_of_constants fs = map (λ f. f.key) fs

-- of the class itself, or of a member (JVMS 4.7.9)
abbrev pub is_signature_owner : ClassFacts → Option Key → Bool
is_signature_owner c None = true
is_signature_owner c (Some k) = has_key k (keys_of c.fields) || has_key k (keys_of c.methods)

abbrev pub keys_in : Option Key → List Key
keys_in None = []
keys_in (Some k) = k ∷ []

abbrev pub is_valid_signature : ClassFacts → Signed → Bool
is_valid_signature c s = is_signature_owner c s.key && is_modified_utf8 s.text

-- the keys of members that have a signature
abbrev pub keys_of_signatures : List Signed → List Key
keys_of_signatures [] = []
keys_of_signatures (s ∷ ss) = keys_in s.key ++ keys_of_signatures ss

-- whether the signature is that of the class
abbrev pub is_signature_of_class : Signed → Bool
is_signature_of_class s = is_none s.key

-- ---- the record

pub record IsValidClass (c : ClassFacts) : Type 0 where
  pub name : IsTrue (is_valid_name c.name)
  pub flags : IsTrue (class_flags_fit c.major c.flags)
  pub superclass : IsTrue (superclass_is_valid c c.superclass)
  pub interfaces : IsTrue (list_all is_valid_name c.interfaces)
  pub fields : IsTrue (list_all (field_is_valid c) c.fields)
  pub fields_differ : IsTrue (keys_differ (keys_of c.fields))
  pub methods : IsTrue (list_all (method_is_valid c) c.methods)
  pub methods_differ : IsTrue (keys_differ (keys_of c.methods))
  pub permits : IsTrue (permits_are_valid c.major c.permits)
  pub nest_host : IsTrue (nest_host_is_valid c.major c.nest_host)
  pub nest_members : IsTrue (nest_members_are_valid c.major c.nest_members)
  pub constants : IsTrue (list_all (is_valid_constant c) c.constants)
  pub constants_differ : IsTrue (keys_differ (keys_of_constants c.constants))
  pub signatures : IsTrue (list_all (is_valid_signature c) c.signatures)
  pub signatures_differ : IsTrue (keys_differ (keys_of_signatures c.signatures))
  pub one_of_class : IsTrue (nat_le (count_by is_signature_of_class c.signatures) 1)
