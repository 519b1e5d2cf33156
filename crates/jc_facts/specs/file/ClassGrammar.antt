-- What a class file is (JVMS 4.1): which bytes stand for which record. Each relation says what stands in front of the bytes, and
-- what comes behind it.
--     Reads bytes c      the bytes are a class file whose record is c
use Rattle.std.specs.Prelude.{◌≡◌, ◌≢◌, ℕ, List, [], ◌∷◌, ◌++◌, length, filter, Option, Some, None, Bool, true, false, not, nat_le, codes, IsTrue, if◌then◌else◌}
use Rattle.jc_desc.specs.declared.versions.TheConstants.{SIGNATURE_MAJOR, NEST_MAJOR, SEAL_MAJOR}
use Rattle.jc_desc.specs.Names.{spells_member_name}
use Rattle.jc_desc.specs.Pool.{PoolOf}
use Rattle.jc_desc.specs.PoolAnswers.{class_in, utf8_in, constant_in, ConstantOf}
use Rattle.jc_desc.specs.PoolGrammar.{IsNumber, IsPool}
use Rattle.jc_facts.specs.declared.class_facts.ClassFacts.{ClassFacts}
use Rattle.jc_facts.specs.declared.class_facts.Constant.{Constant}
use Rattle.jc_facts.specs.Flags.{interface_flag}
use Rattle.jc_facts.specs.Names.{Bytes, same}
use Rattle.jc_facts.specs.file.Rules.{is_object_name, implies, class_flags_fit, member_descriptor_fits, member_flags_fit}
use Rattle.jc_facts.specs.file.Valid.{keys_of, keys_differ}
use Rattle.jc_facts.specs.file.Attributes.{is_array_name, constant_from}
use Rattle.jc_facts.specs.file.ClassParts.{ClassHead, Attribute, OnMember, ReadMember, OnClass, members_of, record_from}

-- ---- numbers and lists

-- a number of n bytes in front, and what comes behind it
pub record IsNumberAt (n : ℕ) (bytes : Bytes) (value : ℕ) (rest : Bytes) : Type 0 where
  pub piece : Bytes
  pub whole : bytes ≡ piece ++ rest
  pub value_is : IsNumber n piece value

-- items in front, one after the other
abbrev pub AreItems : {A : Type 0} → (Bytes → A → Bytes → Type 0) → Bytes → List A → Bytes → Type 0
AreItems item bytes [] rest = bytes ≡ rest
AreItems item bytes (x ∷ xs) rest = (next : Bytes) × item bytes x next × AreItems item next xs rest

-- their number in two bytes, and the items
pub record AreCounted {A : Type 0} (item : Bytes → A → Bytes → Type 0) (bytes : Bytes) (xs : List A) (rest : Bytes) : Type 0 where
  pub after_count : Bytes
  pub count_is : IsNumberAt 2 bytes (length xs) after_count
  pub items_are : AreItems item after_count xs rest

-- ---- the class itself

-- an index of a Class that isn't an array (JVMS 4.4.1)
pub record NamesClass (pool : PoolOf) (i : ℕ) (name : Bytes) : Type 0 where
  pub class_is : class_in pool i ≡ Some name
  pub no_array : is_array_name name ≡ false

-- such an index in two bytes
pub record IsClassAt (pool : PoolOf) (bytes : Bytes) (name : Bytes) (rest : Bytes) : Type 0 where
  pub index : ℕ
  pub index_is : IsNumberAt 2 bytes index rest
  pub names : NamesClass pool index name

-- the superclass of an index; `object` and `interface` say whether the class is java/lang/Object, and an interface
abbrev pub IsSuperclass : PoolOf → Bool → Bool → ℕ → Option Bytes → Type 0
IsSuperclass pool object interface i None = (i ≡ 0) × IsTrue object
IsSuperclass pool object interface i (Some s) = (i ≢ 0) × IsTrue (not object) × NamesClass pool i s × IsTrue (implies interface (is_object_name s))

pub record IsHeadAt (pool : PoolOf) (bytes : Bytes) (head : ClassHead) (rest : Bytes) : Type 0 where
  pub after_flags : Bytes
  pub after_this : Bytes
  pub this : ℕ
  pub super : ℕ
  pub flags_is : IsNumberAt 2 bytes head.flags after_flags
  pub flags_fit : IsTrue (class_flags_fit pool.major head.flags)
  pub this_is : IsNumberAt 2 after_flags this after_this
  pub this_names : NamesClass pool this head.name
  pub super_is : IsNumberAt 2 after_this super rest
  pub super_names : IsSuperclass pool (is_object_name head.name) (interface_flag head.flags) super head.superclass

-- ---- attributes (JVMS 4.7)

-- the index of the name, the length of the contents, and the contents
pub record IsAttributeAt (pool : PoolOf) (bytes : Bytes) (a : Attribute) (rest : Bytes) : Type 0 where
  pub index : ℕ
  pub after_index : Bytes
  pub after_length : Bytes
  pub index_is : IsNumberAt 2 bytes index after_index
  pub name_is : utf8_in pool index ≡ Some a.name
  pub length_is : IsNumberAt 4 after_index (length a.body) after_length
  pub whole : after_length ≡ a.body ++ rest

-- the contents of a PermittedSubclasses or a NestMembers (JVMS 4.7.31, 4.7.29)
abbrev pub AreClasses : PoolOf → Bytes → List Bytes → Type 0
AreClasses pool body names = AreCounted (IsClassAt pool) body names []

-- the contents of a NestHost (JVMS 4.7.28)
abbrev pub IsHost : PoolOf → Bytes → Bytes → Type 0
IsHost pool body name = IsClassAt pool body name []

-- the contents of a Signature (JVMS 4.7.9)
pub record IsSignature (pool : PoolOf) (body : Bytes) (text : Bytes) : Type 0 where
  pub index : ℕ
  pub index_is : IsNumber 2 body index
  pub text_is : utf8_in pool index ≡ Some text

-- the contents of a ConstantValue (JVMS 4.7.2)
pub record IsConstantValue (pool : PoolOf) (body : Bytes) (value : Constant) : Type 0 where
  pub index : ℕ
  pub index_is : IsNumber 2 body index
  pub entry : ConstantOf
  pub entry_is : constant_in pool index ≡ Some entry
  pub value_is : value ≡ constant_from entry

-- the attributes of this name, where they are read
abbrev pub named : Bool → Bytes → List Attribute → List Attribute
named read name ats = if read then filter (λ a. same a.name name) ats else []

-- no attribute says nothing, a single one says what its contents have the form of, and there aren't two
abbrev pub SayOnce : {A : Type 0} → (Bytes → A → Type 0) → List Attribute → Option A → Type 0
SayOnce form [] None = Unit {0}
SayOnce form [] (Some x) = ⊥
SayOnce form (a ∷ []) None = ⊥
SayOnce form (a ∷ []) (Some x) = form a.body x
SayOnce form (a ∷ b ∷ ats) o = ⊥

-- of a field or a method: ConstantValue of fields alone, Signature from major 49 on
pub record SayOnMember (method : Bool) (pool : PoolOf) (ats : List Attribute) (found : OnMember) : Type 0 where
  pub constant : SayOnce (IsConstantValue pool) (named (not method) (codes "ConstantValue") ats) found.constant
  pub signature : SayOnce (IsSignature pool) (named (nat_le SIGNATURE_MAJOR pool.major) (codes "Signature") ats) found.signature

pub record SayOnClass (pool : PoolOf) (ats : List Attribute) (found : OnClass) : Type 0 where
  pub permits : SayOnce (AreClasses pool) (named (nat_le SEAL_MAJOR pool.major) (codes "PermittedSubclasses") ats) found.permits
  pub nest_host : SayOnce (IsHost pool) (named (nat_le NEST_MAJOR pool.major) (codes "NestHost") ats) found.nest_host
  pub nest_members : SayOnce (AreClasses pool) (named (nat_le NEST_MAJOR pool.major) (codes "NestMembers") ats) found.nest_members
  pub signature : SayOnce (IsSignature pool) (named (nat_le SIGNATURE_MAJOR pool.major) (codes "Signature") ats) found.signature

-- ---- fields and methods (JVMS 4.5, 4.6)

-- flags, the index of the name, that of the descriptor, and the attributes; `class` are the flags of the class
pub record IsMemberAt (method : Bool) (pool : PoolOf) (class : ℕ) (bytes : Bytes) (r : ReadMember) (rest : Bytes) : Type 0 where
  pub after_flags : Bytes
  pub after_name : Bytes
  pub after_descriptor : Bytes
  pub name : ℕ
  pub descriptor : ℕ
  pub attributes : List Attribute
  pub flags_is : IsNumberAt 2 bytes r.member.flags after_flags
  pub name_is : IsNumberAt 2 after_flags name after_name
  pub descriptor_is : IsNumberAt 2 after_name descriptor after_descriptor
  pub name_text : utf8_in pool name ≡ Some r.member.name
  pub name_fits : IsTrue (spells_member_name r.member.name method)
  pub descriptor_text : utf8_in pool descriptor ≡ Some r.member.descriptor
  pub descriptor_fits : IsTrue (member_descriptor_fits method r.member.name r.member.flags r.member.descriptor)
  pub flags_fit : IsTrue (member_flags_fit method pool.major class r.member.name r.member.flags)
  pub attributes_are : AreCounted (IsAttributeAt pool) after_descriptor attributes rest
  pub found_is : SayOnMember method pool attributes r.found

-- all of them, no two of which have one key
pub record AreMembersAt (method : Bool) (pool : PoolOf) (class : ℕ) (bytes : Bytes) (rs : List ReadMember) (rest : Bytes) : Type 0 where
  pub members_are : AreCounted (IsMemberAt method pool class) bytes rs rest
  pub keys_are : IsTrue (keys_differ (keys_of (members_of rs)))

-- ---- the whole file

pub record IsClassFile (bytes : Bytes) (c : ClassFacts) : Type 0 where
  pub pool : PoolOf
  pub head : ClassHead
  pub interfaces : List Bytes
  pub fields : List ReadMember
  pub methods : List ReadMember
  pub attributes : List Attribute
  pub found : OnClass
  pub after_pool : Bytes
  pub after_head : Bytes
  pub after_interfaces : Bytes
  pub after_fields : Bytes
  pub after_methods : Bytes
  pub pool_is : IsPool bytes pool after_pool
  pub head_is : IsHeadAt pool after_pool head after_head
  pub interfaces_are : AreCounted (IsClassAt pool) after_head interfaces after_interfaces
  pub fields_are : AreMembersAt false pool head.flags after_interfaces fields after_fields
  pub methods_are : AreMembersAt true pool head.flags after_fields methods after_methods
  pub attributes_are : AreCounted (IsAttributeAt pool) after_methods attributes []
  pub found_is : SayOnClass pool attributes found
  pub record_is : c ≡ record_from pool.major head interfaces fields methods found

-- the bytes are a class file whose record is c
abbrev pub Reads : Bytes → ClassFacts → Type 0
Reads bytes c = IsClassFile bytes c
