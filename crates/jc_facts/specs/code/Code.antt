-- The items of code by scan: those of the pool entries that its instructions name, in order, and those of the catch types of its exception
-- table (JVMS 4.7.3, 4.10, 6.5). No operand stack is looked at, so a receiver isn't known.
--     used a op i      the items of one instruction
--     scan_at, catches_at      those of the code and of its exception table, or the first refusal
use Rattle.std.specs.Prelude.{ℕ, zero, suc, ◌+◌, ◌-◌, ◌/◌, List, [], ◌∷◌, ◌++◌, length, drop, get_or, slice_get, Option, Some, None, Result, Ok, Bool, false, ◌==◌, ◌&&◌, ◌||◌, not, is_some, if◌then◌else◌}
use Rattle.jc_desc.specs.Names.{is_init_name, is_clinit_name}
use Rattle.jc_desc.specs.Pool.{PoolOf, short_from}
use Rattle.jc_desc.specs.PoolAnswers.{MemberRefOf, HandleRefOf, class_in, tag_in, member_ref_in, handle_in, dynamic_in, some_if}
use Rattle.jc_facts.specs.declared.act.Act.{Act}
use Rattle.jc_facts.specs.declared.act.Act.TheVariants as act
use Rattle.jc_facts.specs.declared.client.Item.{Item}
use Rattle.jc_facts.specs.declared.client.Item.TheVariants as item
use Rattle.jc_facts.specs.declared.client.Place.{Place}
use Rattle.jc_facts.specs.declared.client.Place.TheVariants as place
use Rattle.jc_facts.specs.declared.code_fault.CodeFault.{CodeFault}
use Rattle.jc_facts.specs.declared.code_fault.CodeReason.TheVariants as reasons
use Rattle.jc_facts.specs.declared.key.Key.{Key}
use Rattle.jc_facts.specs.Names.{Bytes, same}
use Rattle.jc_facts.specs.file.Attributes.{BootstrapOf, is_array_name, ◌|>>◌}
use Rattle.jc_facts.specs.Options.{some_and}
use Rattle.jc_facts.specs.code.Lengths.{instruction_length}
use Rattle.jc_facts.specs.file.Refusals.{◌>>=◌, want, placed}

-- ---- what its pool entry gives

-- the method whose code it is: of which class, with its superclass, constant pool and bootstrap methods (None where they aren't to be used)
pub record Around : Type 0 where
  pub pool : PoolOf
  pub class : Bytes
  pub superclass : Option Bytes
  pub boots : Option (List BootstrapOf)
  pub name : Bytes
  pub descriptor : Bytes
  pub flags : ℕ

-- the key of the member that a reference names
abbrev pub key_in : MemberRefOf → Key
key_in m = record { name = m.name; descriptor = m.descriptor }

-- this item, or where the reference names an array class, the item of that class: an array class has no members of its own (JVMS 5.4.3.3)
abbrev pub of_member : MemberRefOf → Item → Item
of_member m i = if is_array_name m.class then item.Class m.class else i

-- an act on the member that a reference names, with a receiver that isn't known
abbrev pub access : Act → MemberRefOf → Place → Item
access a m p = of_member m (item.Access a m.class (key_in m) None p)

abbrev pub is_interface_ref : MemberRefOf → Bool
is_interface_ref m = m.tag == 11

-- the item of a method handle, by its kind (JVMS table 5.4.3.5-A)
unfoldable pub handle_item : HandleRefOf → Item
handle_item h =
    if h.kind == 1 then access act.GetField h.member place.Other
    else if h.kind == 2 then access act.GetStatic h.member place.Other
    else if h.kind == 3 then access act.PutField h.member place.Other
    else if h.kind == 4 then access act.PutStatic h.member place.Other
    else if h.kind == 5 then access act.InvokeVirtual h.member place.Other
    else if h.kind == 6 then access (if is_interface_ref h.member then act.InvokeStaticInterface else act.InvokeStatic) h.member place.Other
    else if h.kind == 7 then access (if is_interface_ref h.member then act.InvokeSpecialInterface else act.InvokeSpecial) h.member place.Other
    else if h.kind == 8 then of_member h.member (item.New h.member.class h.member.descriptor)
    else access act.InvokeInterface h.member place.Other

-- the item of a Class
abbrev pub class_item : Option Bytes → List Item
class_item None = []
class_item (Some name) = item.Class name ∷ []

-- the item of a MethodHandle
abbrev pub handle_items : Option HandleRefOf → List Item
handle_items None = []
handle_items (Some h) = handle_item h ∷ []

-- a static argument of a bootstrap method: an item for a Class or a MethodHandle; None where the index holds no entry (JVMS 4.7.23)
abbrev pub argument_items : PoolOf → ℕ → Option (List Item)
argument_items pool i = some_if (is_some (tag_in pool i)) (class_item (class_in pool i) ++ handle_items (handle_in pool i))

-- those of n arguments, whose indices have two bytes each
unfoldable pub arguments_items : PoolOf → ℕ → Bytes → Option (List Item)
arguments_items pool zero bytes = Some []
arguments_items pool (suc n) bytes = argument_items pool (short_from 0 bytes) |>> λ one. arguments_items pool n (drop 2 bytes) |>> λ others. Some (one ++ others)

-- a bootstrap method: its handle's item, then its arguments' (JVMS 5.4.3.6)
abbrev pub row_items : PoolOf → BootstrapOf → Option (List Item)
row_items pool row = handle_in pool row.handle |>> λ h. arguments_items pool (length row.arguments / 2) row.arguments |>> λ more. Some (handle_item h ∷ more)

-- the items of the bootstrap method of this number
unfoldable pub boot_items : PoolOf → Option (List BootstrapOf) → ℕ → Option (List Item)
boot_items pool boots n = boots |>> λ rows. slice_get rows n |>> λ row. row_items pool row

-- the item of the Class at this index
abbrev pub named : PoolOf → ℕ → Option (List Item)
named pool i = class_in pool i |>> λ name. Some (item.Class name ∷ [])

-- the kind of method that has this name (JVMS 2.9)
abbrev pub place_of : Bytes → Place
place_of name = if is_init_name name then place.Init else if is_clinit_name name then place.Clinit else place.Other

-- the named class is this class or its superclass
abbrev pub is_own : Around → Bytes → Bool
is_own a name = same name a.class || some_and (same name) a.superclass

-- the member that a reference with one of these two tags names: 9 Fieldref, 10 Methodref, 11 InterfaceMethodref (JVMS 4.4.2)
abbrev pub member_at : PoolOf → ℕ → ℕ → ℕ → Option MemberRefOf
member_at pool tag other i = member_ref_in pool i |>> λ m. some_if (m.tag == tag || m.tag == other) m

-- the same, unless it is a Methodref of `<init>`, which invokespecial alone may call (JVMS 4.9.1)
abbrev pub plain_member : PoolOf → ℕ → ℕ → ℕ → Option MemberRefOf
plain_member pool tag other i = member_at pool tag other i |>> λ m. some_if (not (m.tag == 10 && is_init_name m.name)) m

-- getstatic, putstatic, getfield, putfield
abbrev pub field_use : Around → Act → ℕ → Option (List Item)
field_use a what i = member_at a.pool 9 9 i |>> λ m. Some (access what m (place_of a.name) ∷ [])

-- the act for a method of a class or of an interface, as the reference says
abbrev pub either : MemberRefOf → Act → Act → Act
either m method interface = if is_interface_ref m then interface else method

-- invokespecial (JVMS 4.10.1.9): in an `<init>`, `<init>` of its own class or superclass initializes the instance; every other `<init>` makes an object
abbrev pub special_item : Around → MemberRefOf → Item
special_item a m =
    if is_init_name m.name then of_member m (if is_init_name a.name && is_own a m.class then item.Init m.class m.descriptor else item.New m.class m.descriptor)
    else access (either m act.InvokeSpecial act.InvokeSpecialInterface) m (place_of a.name)

abbrev pub has_tag : ℕ → Option ℕ → Bool
has_tag n None = false
has_tag n (Some tag) = tag == n

-- the index holds an entry with this tag (JVMS table 4.4-A)
abbrev pub holds_tag : PoolOf → ℕ → ℕ → Bool
holds_tag pool i tag = has_tag tag (tag_in pool i)

-- the items of the bootstrap method of a Dynamic or an InvokeDynamic
abbrev pub dynamic_items : Around → ℕ → Option (List Item)
dynamic_items a i = dynamic_in a.pool i |>> λ n. boot_items a.pool a.boots n

-- ldc and ldc_w: Dynamic 17; Integer 3, Float 4, Class 7, String 8, MethodHandle 15, MethodType 16 (JVMS 6.5.ldc)
abbrev pub loaded : Around → ℕ → Option (List Item)
loaded a i =
    if holds_tag a.pool i 17 then dynamic_items a i
    else some_if (holds_tag a.pool i 3 || holds_tag a.pool i 4 || holds_tag a.pool i 7 || holds_tag a.pool i 8 || holds_tag a.pool i 15 || holds_tag a.pool i 16)
    (class_item (class_in a.pool i) ++ handle_items (handle_in a.pool i))

-- ldc2_w: Dynamic 17; Long 5, Double 6 (JVMS 6.5.ldc2_w)
abbrev pub loaded_wide : Around → ℕ → Option (List Item)
loaded_wide a i = if holds_tag a.pool i 17 then dynamic_items a i else some_if (holds_tag a.pool i 5 || holds_tag a.pool i 6) []

-- invokevirtual
abbrev pub virtual_use : Around → ℕ → Option (List Item)
virtual_use a i = plain_member a.pool 10 10 i |>> λ m. Some (access act.InvokeVirtual m (place_of a.name) ∷ [])

-- invokespecial
abbrev pub special_use : Around → ℕ → Option (List Item)
special_use a i = member_at a.pool 10 11 i |>> λ m. Some (special_item a m ∷ [])

-- invokestatic
abbrev pub static_use : Around → ℕ → Option (List Item)
static_use a i = plain_member a.pool 10 11 i |>> λ m. Some (access (either m act.InvokeStatic act.InvokeStaticInterface) m (place_of a.name) ∷ [])

-- invokeinterface
abbrev pub interface_use : Around → ℕ → Option (List Item)
interface_use a i = member_at a.pool 11 11 i |>> λ m. Some (access act.InvokeInterface m (place_of a.name) ∷ [])

-- invokedynamic: InvokeDynamic 18
abbrev pub dynamic_use : Around → ℕ → Option (List Item)
dynamic_use a i = if holds_tag a.pool i 18 then dynamic_items a i else None

-- the items of an instruction with this opcode and pool index, none where it names no entry; None where the entry isn't of its kinds:
--     187 new, 189 anewarray, 192 checkcast, 193 instanceof, 197 multianewarray; 18 ldc, 19 ldc_w; 20 ldc2_w;
--     178 getstatic; 179 putstatic; 180 getfield; 181 putfield;
--     182 invokevirtual; 183 invokespecial; 184 invokestatic; 185 invokeinterface; 186 invokedynamic
unfoldable pub used : Around → ℕ → ℕ → Option (List Item)
used a op i =
    if op == 187 || op == 189 || op == 192 || op == 193 || op == 197 then named a.pool i
    else if op == 18 || op == 19 then loaded a i
    else if op == 20 then loaded_wide a i
    else if op == 178 then field_use a act.GetStatic i
    else if op == 179 then field_use a act.PutStatic i
    else if op == 180 then field_use a act.GetField i
    else if op == 181 then field_use a act.PutField i
    else if op == 182 then virtual_use a i
    else if op == 183 then special_use a i
    else if op == 184 then static_use a i
    else if op == 185 then interface_use a i
    else if op == 186 then dynamic_use a i
    else Some []

-- the pool index behind an opcode: one byte for ldc, two for the others; 0 where they aren't there
abbrev pub operand : ℕ → Bytes → ℕ
operand op rest = if op == 18 then get_or rest 0 0 else short_from 0 rest

-- ---- scan

-- an instruction at this place of code, at whose first byte (the code's) so many bytes of the file are left: its length and its items. Its bytes
-- are judged before its entry is
unfoldable pub instruction_at : Around → ℕ → ℕ → ℕ → Bytes → Result (ℕ × List Item) CodeFault
instruction_at a left pc op rest = do
  len ← placed (left - pc) (instruction_length pc op rest)
  items ← want (used a op (operand op rest)) (left - pc) reasons.BadEntry
  Ok (len, items)

-- the instruction in front; nothing at the end
unfoldable pub next_at : Around → ℕ → ℕ → Bytes → Result (ℕ × List Item) CodeFault
next_at a left pc [] = Ok (0, [])
next_at a left pc (op ∷ rest) = instruction_at a left pc op rest

-- the items of code from this place on, of which at most n bytes are left
unfoldable pub scan_at : Around → ℕ → ℕ → ℕ → Bytes → Result (List Item) CodeFault
scan_at a left zero pc bytes = Ok []
scan_at a left (suc n) pc bytes = do
  one ← next_at a left pc bytes
  others ← scan_at a left n (pc + one.0) (drop one.0 bytes)
  Ok (one.1 ++ others)

-- a catch type: 0 catches everything and names no class (JVMS 4.7.3)
abbrev pub caught : PoolOf → ℕ → Option (List Item)
caught pool i = if i == 0 then Some [] else named pool i

-- the catch types of the first n entries of an exception table, eight bytes each, at whose first byte so many bytes of the file are left
unfoldable pub catches_at : PoolOf → ℕ → ℕ → Bytes → Result (List Item) CodeFault
catches_at pool left zero bytes = Ok []
catches_at pool left (suc n) bytes = do
  one ← want (caught pool (short_from 6 bytes)) left reasons.BadEntry
  others ← catches_at pool (left - 8) n (drop 8 bytes)
  Ok (one ++ others)
