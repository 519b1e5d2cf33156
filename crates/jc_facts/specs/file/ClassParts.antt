-- The parts of a class file behind its constant pool (JVMS 4.1), and the record that they make.
--     record_from major head interfaces fields methods found      that record
use Rattle.std.specs.Prelude.{ℕ, List, [], ◌∷◌, ◌++◌, map, Option, Some, None, Bool, if◌then◌else◌}
use Rattle.jc_facts.specs.declared.class_facts.ClassFacts.{ClassFacts}
use Rattle.jc_facts.specs.declared.class_facts.Member.{Member}
use Rattle.jc_facts.specs.declared.class_facts.Fixed.{Fixed}
use Rattle.jc_facts.specs.declared.class_facts.Signed.{Signed}
use Rattle.jc_facts.specs.declared.class_facts.Constant.{Constant}
use Rattle.jc_facts.specs.declared.key.Key.{Key}
use Rattle.jc_facts.specs.Flags.{static_flag}
use Rattle.jc_facts.specs.Names.{Bytes, key_of}

-- access_flags, the name of this_class, and that of super_class where it isn't 0
pub record ClassHead : Type 0 where
  pub flags : ℕ
  pub name : Bytes
  pub superclass : Option Bytes

-- an attribute: its name, and its contents (JVMS 4.7)
pub record Attribute : Type 0 where
  pub name : Bytes
  pub body : Bytes

-- what the attributes of a member say that are read: ConstantValue, Signature
pub record OnMember : Type 0 where
  pub constant : Option Constant
  pub signature : Option Bytes

-- a member, and what its attributes say
pub record ReadMember : Type 0 where
  pub member : Member
  pub found : OnMember

-- what the attributes of the class say that are read: PermittedSubclasses, NestHost, NestMembers, Signature
pub record OnClass : Type 0 where
  pub permits : Option (List Bytes)
  pub nest_host : Option Bytes
  pub nest_members : Option (List Bytes)
  pub signature : Option Bytes

-- ---- the record

abbrev pub or_empty : Option (List Bytes) → List Bytes
or_empty None = []
or_empty (Some names) = names

abbrev pub members_of : List ReadMember → List Member
members_of rs = map (λ r. r.member) rs

-- a constant value is kept only for a static field
abbrev pub fixed_of : Key → Bool → Option Constant → List Fixed
fixed_of key static None = []
fixed_of key static (Some c) = if static then record { key = key; value = c } ∷ [] else []

abbrev pub constants_of : List ReadMember → List Fixed
constants_of [] = []
constants_of (r ∷ rs) = fixed_of (key_of r.member) (static_flag r.member.flags) r.found.constant ++ constants_of rs

abbrev pub signed_of : Option Key → Option Bytes → List Signed
signed_of key None = []
signed_of key (Some t) = record { key = key; text = t } ∷ []

abbrev pub signatures_of : List ReadMember → List Signed
signatures_of [] = []
signatures_of (r ∷ rs) = signed_of (Some (key_of r.member)) r.found.signature ++ signatures_of rs

-- each list in file order; signatures of the fields, then of the methods, then of the class
abbrev pub record_from : ℕ → ClassHead → List Bytes → List ReadMember → List ReadMember → OnClass → ClassFacts
record_from major head interfaces fields methods found = record {
  name = head.name;
  major = major;
  flags = head.flags;
  superclass = head.superclass;
  interfaces = interfaces;
  fields = members_of fields;
  methods = members_of methods;
  permits = found.permits;
  nest_host = found.nest_host;
  nest_members = or_empty found.nest_members;
  constants = constants_of fields;
  signatures = signatures_of fields ++ signatures_of methods ++ signed_of None found.signature;
}
