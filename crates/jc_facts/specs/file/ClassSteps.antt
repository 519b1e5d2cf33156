-- The steps of reading a class file in their order, behind those of its constant pool, and the first fault that they meet.
--     IsFaulty bytes offset reason      the first fault
-- A fault of a field stands at the field's first byte, if nothing else is said; where bytes of the field are missing, Short comes first.
use Rattle.std.specs.Prelude.{◌≡◌, ℕ, zero, suc, ◌-◌, List, [], ◌∷◌, ◌++◌, length, Option, Some, None, Result, Ok, Err, Bool, true, false, ◌==◌, ◌&&◌, not, nat_le, codes, if◌then◌else◌}
use Rattle.jc_desc.specs.declared.fault.Fault.{Fault}
use Rattle.jc_desc.specs.declared.fault.Reason.{Reason}
use Rattle.jc_desc.specs.declared.fault.Reason.TheVariants as reasons
use Rattle.jc_desc.specs.declared.versions.TheConstants.{SIGNATURE_MAJOR, NEST_MAJOR, SEAL_MAJOR}
use Rattle.jc_desc.specs.Faults.{◌>>=◌, fault, number_at, part_at, check}
use Rattle.jc_desc.specs.Names.{spells_member_name}
use Rattle.jc_desc.specs.Pool.{PoolOf}
use Rattle.jc_desc.specs.PoolAnswers.{utf8_in}
use Rattle.jc_desc.specs.PoolSteps.{pool_at}
use Rattle.jc_facts.specs.declared.class_facts.ClassFacts.{ClassFacts}
use Rattle.jc_facts.specs.declared.class_facts.Constant.{Constant}
use Rattle.jc_facts.specs.declared.class_facts.Member.{Member}
use Rattle.jc_facts.specs.declared.key.Key.{Key}
use Rattle.jc_facts.specs.Flags.{interface_flag}
use Rattle.jc_facts.specs.Names.{Bytes, same, key_of}
use Rattle.jc_facts.specs.file.Rules.{is_object_name, implies, class_flags_fit, member_descriptor_fits, member_flags_fit}
use Rattle.jc_facts.specs.file.Valid.{has_key}
use Rattle.jc_facts.specs.file.Attributes.{need, plain_class_at, class_from, counted_at, class_list_of, nest_host_of, signature_of, constant_value_of}
use Rattle.jc_facts.specs.file.ClassParts.{ClassHead, Attribute, OnMember, ReadMember, OnClass, record_from}

-- ---- the class itself

-- the superclass of an index that isn't 0: BadIndex, and then BadName
abbrev pub some_superclass_at : PoolOf → ℕ → Bool → ℕ → Result (Option Bytes) Fault
some_superclass_at pool left interface i = do
  name ← plain_class_at pool left i
  check (implies interface (is_object_name name)) left reasons.BadName (Ok (Some name))

-- 0 in java/lang/Object and nowhere else, which is BadIndex
abbrev pub superclass_from : PoolOf → ℕ → Bool → Bool → ℕ → Result (Option Bytes) Fault
superclass_from pool left object interface i =
    if i == 0 then check object left reasons.BadIndex (Ok None)
    else check (not object) left reasons.BadIndex (some_superclass_at pool left interface i)

-- access_flags, this_class and super_class, each with its faults before the next is read
unfoldable pub head_from : PoolOf → Bytes → Result (ClassHead × Bytes) Fault
head_from pool bytes = do
  flags ← number_at 2 bytes
  this ← check (class_flags_fit pool.major flags.0) (length bytes) reasons.BadFlags (number_at 2 flags.1)
  name ← plain_class_at pool (length flags.1) this.0
  super ← number_at 2 this.1
  superclass ← superclass_from pool (length this.1) (is_object_name name) (interface_flag flags.0) super.0
  Ok (record { flags = flags.0; name = name; superclass = superclass }, super.1)

-- ---- attributes

-- six bytes, then BadIndex at the first of them, and only then the contents
unfoldable pub attribute_from : PoolOf → Bytes → Result (Attribute × Bytes) Fault
attribute_from pool bytes = do
  index ← number_at 2 bytes
  len ← number_at 4 index.1
  name ← need (utf8_in pool index.0) (length bytes) reasons.BadIndex
  body ← part_at len.0 len.1
  Ok (record { name = name; body = body.0 }, body.1)

-- n attributes: `take` says what is found with each of them, None where it isn't of its form or one of its name came before, which
-- is BadAttribute at its first byte
unfoldable pub attributes_at : {S : Type 0} → (S → Attribute → Option S) → PoolOf → ℕ → S → Bytes → Result (S × Bytes) Fault
attributes_at take pool zero found bytes = Ok (found, bytes)
attributes_at take pool (suc n) found bytes = do
  one ← attribute_from pool bytes
  next ← need (take found one.0) (length bytes) reasons.BadAttribute
  attributes_at take pool n next one.1

unfoldable pub counted_attributes_at : {S : Type 0} → (S → Attribute → Option S) → PoolOf → S → Bytes → Result (S × Bytes) Fault
counted_attributes_at take pool found bytes = do
  n ← number_at 2 bytes
  attributes_at take pool n.0 found n.1

-- the value, where it is the first of its name
abbrev pub once : {A : Type 0} → Option A → Option A → Option A
once None value = value
once (Some before) value = None

abbrev pub has_this_name : Attribute → Bytes → Bool
has_this_name a name = same a.name name

abbrev pub put_constant : OnMember → Option Constant → Option OnMember
put_constant found None = None
put_constant found (Some c) = Some (record { constant = Some c; signature = found.signature })

abbrev pub put_signature : OnMember → Option Bytes → Option OnMember
put_signature found None = None
put_signature found (Some t) = Some (record { constant = found.constant; signature = Some t })

-- ConstantValue of fields alone; every other attribute is skipped, as one below its major
unfoldable pub member_takes : Bool → PoolOf → OnMember → Attribute → Option OnMember
member_takes method pool found a =
    if not method && has_this_name a (codes "ConstantValue") then put_constant found (once found.constant (constant_value_of pool a.body))
    else if nat_le SIGNATURE_MAJOR pool.major && has_this_name a (codes "Signature") then put_signature found (once found.signature (signature_of pool a.body))
    else Some found

abbrev pub put_permits : OnClass → Option (List Bytes) → Option OnClass
put_permits found None = None
put_permits found (Some names) = Some (record { permits = Some names; nest_host = found.nest_host; nest_members = found.nest_members; signature = found.signature })

abbrev pub put_nest_host : OnClass → Option Bytes → Option OnClass
put_nest_host found None = None
put_nest_host found (Some name) = Some (record { permits = found.permits; nest_host = Some name; nest_members = found.nest_members; signature = found.signature })

abbrev pub put_nest_members : OnClass → Option (List Bytes) → Option OnClass
put_nest_members found None = None
put_nest_members found (Some names) = Some (record { permits = found.permits; nest_host = found.nest_host; nest_members = Some names; signature = found.signature })

abbrev pub put_class_signature : OnClass → Option Bytes → Option OnClass
put_class_signature found None = None
put_class_signature found (Some t) = Some (record { permits = found.permits; nest_host = found.nest_host; nest_members = found.nest_members; signature = Some t })

unfoldable pub class_takes : PoolOf → OnClass → Attribute → Option OnClass
class_takes pool found a =
    if nat_le SEAL_MAJOR pool.major && has_this_name a (codes "PermittedSubclasses") then put_permits found (once found.permits (class_list_of pool a.body))
    else if nat_le NEST_MAJOR pool.major && has_this_name a (codes "NestHost") then put_nest_host found (once found.nest_host (nest_host_of pool a.body))
    else if nat_le NEST_MAJOR pool.major && has_this_name a (codes "NestMembers") then put_nest_members found (once found.nest_members (class_list_of pool a.body))
    else if nat_le SIGNATURE_MAJOR pool.major && has_this_name a (codes "Signature") then put_class_signature found (once found.signature (signature_of pool a.body))
    else Some found

abbrev pub nothing_on_member : OnMember
nothing_on_member = record { constant = None; signature = None }

abbrev pub nothing_on_class : OnClass
nothing_on_class = record { permits = None; nest_host = None; nest_members = None; signature = None }

-- ---- fields and methods

-- six bytes, then BadIndex and BadName at the name's index, BadIndex and BadDescriptor at the descriptor's, and BadFlags at the first
-- byte; `class` are the flags of the class
unfoldable pub member_head_from : Bool → PoolOf → ℕ → Bytes → Result (Member × Bytes) Fault
member_head_from method pool class bytes = do
  flags ← number_at 2 bytes
  first ← number_at 2 flags.1
  second ← number_at 2 first.1
  name ← need (utf8_in pool first.0) (length flags.1) reasons.BadIndex
  text ← check (spells_member_name name method) (length flags.1) reasons.BadName (need (utf8_in pool second.0) (length first.1) reasons.BadIndex)
  check (member_descriptor_fits method name flags.0 text) (length first.1) reasons.BadDescriptor
      (check (member_flags_fit method pool.major class name flags.0) (length bytes) reasons.BadFlags
      (Ok (record { name = name; descriptor = text; flags = flags.0 }, second.1)))

-- then Duplicate at the first byte, and only then the attributes; `seen` are the keys of the members before it in its list
unfoldable pub member_from : Bool → PoolOf → ℕ → List Key → Bytes → Result (ReadMember × Bytes) Fault
member_from method pool class seen bytes = do
  head ← member_head_from method pool class bytes
  found ← check (not (has_key (key_of head.0) seen)) (length bytes) reasons.Duplicate (counted_attributes_at (member_takes method pool) pool nothing_on_member head.1)
  Ok (record { member = head.0; found = found.0 }, found.1)

unfoldable pub members_at : Bool → PoolOf → ℕ → List Key → ℕ → Bytes → Result (List ReadMember × Bytes) Fault
members_at method pool class seen zero bytes = Ok ([], bytes)
members_at method pool class seen (suc n) bytes = do
  one ← member_from method pool class seen bytes
  others ← members_at method pool class (seen ++ key_of one.0.member ∷ []) n one.1
  Ok (one.0 ∷ others.0, others.1)

unfoldable pub counted_members_at : Bool → PoolOf → ℕ → Bytes → Result (List ReadMember × Bytes) Fault
counted_members_at method pool class bytes = do
  n ← number_at 2 bytes
  members_at method pool class [] n.0 n.1

-- ---- the whole file

-- Trailing at the first byte behind the last attribute
abbrev pub ended : {A : Type 0} → Bytes → A → Result A Fault
ended [] x = Ok x
ended (b ∷ bs) x = fault (length (b ∷ bs)) reasons.Trailing

-- the record, or the first fault
unfoldable pub class_of : Bytes → Result ClassFacts Fault
class_of bytes = do
  pool ← pool_at bytes
  head ← head_from pool.0 pool.1
  interfaces ← counted_at (class_from pool.0) head.1
  fields ← counted_members_at false pool.0 head.0.flags interfaces.1
  methods ← counted_members_at true pool.0 head.0.flags fields.1
  found ← counted_attributes_at (class_takes pool.0) pool.0 nothing_on_class methods.1
  ended found.1 (record_from pool.0.major head.0 interfaces.0 fields.0 methods.0 found.0)

-- the first fault of the bytes, at its offset
abbrev pub IsFaulty : Bytes → ℕ → Reason → Type 0
IsFaulty bytes offset reason = (f : Fault) × (class_of bytes ≡ Err f) × (offset ≡ length bytes - f.left) × (reason ≡ f.reason)
