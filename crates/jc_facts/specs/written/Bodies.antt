-- The bodies of methods that are written (JVMS 4.7.3, 6.5): the pool entries of their instructions, their bytes, and the places that
-- they take on the stack.
--     steps_needs steps      the pool entries of instructions in order
--     steps_bytes pool steps      the code
--     places_at_most steps      the largest number of places on the stack
use Rattle.std.specs.Prelude.{ℕ, ◌+◌, ◌-◌, ◌*◌, List, [], ◌∷◌, ◌++◌, max, Option, Some, None, nat_lt, codes, if◌then◌else◌}
use Rattle.byteorder.specs.Endian.{big_bytes}
use Rattle.jc_desc.specs.Slots.{slots_returned, slots_of_field}
use Rattle.jc_desc.specs.Reading.{field_of, method_of, slots_of_method}
use Rattle.jc_desc.specs.Tags as tags
use Rattle.jc_facts.specs.declared.act.Act.{Act}
use Rattle.jc_facts.specs.declared.act.Act.TheVariants as acts
use Rattle.jc_facts.specs.declared.blueprint.Primitive.{Primitive}
use Rattle.jc_facts.specs.declared.blueprint.Primitive.TheVariants as prims
use Rattle.jc_facts.specs.declared.blueprint.Slot.{Slot}
use Rattle.jc_facts.specs.declared.blueprint.Slot.TheVariants as kinds
use Rattle.jc_facts.specs.declared.blueprint.Step.{Step}
use Rattle.jc_facts.specs.declared.blueprint.Step.TheVariants as steps
use Rattle.jc_facts.specs.Names.{Bytes}
use Rattle.jc_facts.specs.written.PoolEntries.{two, joined, PoolEntry, class, member, index_of}

-- ---- the pool entries of instructions

-- the tag of the reference that an instruction takes (JVMS 6.5); acts that are no instructions have none, and 0 is no tag
abbrev pub tag_of_act : Act → ℕ
tag_of_act acts.GetStatic = tags.field_ref
tag_of_act acts.PutStatic = tags.field_ref
tag_of_act acts.GetField = tags.field_ref
tag_of_act acts.PutField = tags.field_ref
tag_of_act acts.InvokeVirtual = tags.method_ref
tag_of_act acts.InvokeSpecial = tags.method_ref
tag_of_act acts.InvokeSpecialInterface = tags.interface_method_ref
tag_of_act acts.InvokeStatic = tags.method_ref
tag_of_act acts.InvokeStaticInterface = tags.interface_method_ref
tag_of_act acts.InvokeInterface = tags.interface_method_ref
tag_of_act _ = 0

-- the name of a constructor (JVMS 2.9.1)
abbrev pub init_name : Bytes
init_name = codes "<init>"

-- the pool entry of an instruction, if it has one
abbrev pub step_needs : Step → List PoolEntry
step_needs steps.Null = []
step_needs (steps.Zero p) = []
step_needs (steps.Load s i) = []
step_needs (steps.New c) = class c ∷ []
step_needs steps.Dup = []
step_needs steps.Pop = []
step_needs steps.Pop2 = []
step_needs (steps.Cast c) = class c ∷ []
step_needs (steps.Member a c k) = member (tag_of_act a) c k.name k.descriptor ∷ []
step_needs (steps.Construct c d) = member tags.method_ref c init_name d ∷ []
step_needs (steps.Return r) = []

abbrev pub steps_needs : List Step → List PoolEntry
steps_needs [] = []
steps_needs (s ∷ ss) = step_needs s ++ steps_needs ss

-- ---- their bytes

-- iconst_0, lconst_0, fconst_0, dconst_0
abbrev pub opcode_of_zero : Primitive → ℕ
opcode_of_zero prims.Int = 3
opcode_of_zero prims.Long = 9
opcode_of_zero prims.Float = 11
opcode_of_zero prims.Double = 14

-- the opcodes of loads and returns stand in the order of these numbers: iload, lload, fload, dload, aload
abbrev pub number_of_kind : Slot → ℕ
number_of_kind kinds.Int = 0
number_of_kind kinds.Long = 1
number_of_kind kinds.Float = 2
number_of_kind kinds.Double = 3
number_of_kind kinds.Ref = 4

-- the short form for locals 0 to 3, from iload_0 (26) to aload_3 (45); for others the form of two bytes, from iload (21) to aload (25)
abbrev pub load_bytes : ℕ → ℕ → Bytes
load_bytes kind local = if nat_lt local 4 then (26 + 4 * kind + local) ∷ [] else (21 + kind) ∷ big_bytes 1 local

-- return (177), or ireturn (172) to areturn (176)
abbrev pub opcode_of_return : Option Slot → ℕ
opcode_of_return None = 177
opcode_of_return (Some s) = 172 + number_of_kind s

-- acts that are no instructions have none, and write 0
abbrev pub opcode_of_act : Act → ℕ
opcode_of_act acts.GetStatic = 178
opcode_of_act acts.PutStatic = 179
opcode_of_act acts.GetField = 180
opcode_of_act acts.PutField = 181
opcode_of_act acts.InvokeVirtual = 182
opcode_of_act acts.InvokeSpecial = 183
opcode_of_act acts.InvokeSpecialInterface = 183
opcode_of_act acts.InvokeStatic = 184
opcode_of_act acts.InvokeStaticInterface = 184
opcode_of_act acts.InvokeInterface = 185
opcode_of_act _ = 0

-- the slots of the parameters; none where the descriptor is no method's
abbrev pub slots_or_none : Option ℕ → ℕ
slots_or_none None = 0
slots_or_none (Some n) = n

-- what follows the index of an invokeinterface: the number of slots of the parameters and the object, and a zero
abbrev pub behind_use : Act → Bytes → Bytes
behind_use acts.InvokeInterface descriptor = big_bytes 1 (slots_or_none (slots_of_method descriptor) + 1) ++ 0 ∷ []
behind_use _ descriptor = []

-- an instruction: aconst_null (1), a zero, a load, new (187), dup (89), pop (87), pop2 (88), checkcast (192), a field or invoke
-- instruction, invokespecial (183) of `<init>`, a return
abbrev pub step_bytes : List PoolEntry → Step → Bytes
step_bytes pool steps.Null = 1 ∷ []
step_bytes pool (steps.Zero p) = opcode_of_zero p ∷ []
step_bytes pool (steps.Load s i) = load_bytes (number_of_kind s) i
step_bytes pool (steps.New c) = 187 ∷ two (index_of pool (class c))
step_bytes pool steps.Dup = 89 ∷ []
step_bytes pool steps.Pop = 87 ∷ []
step_bytes pool steps.Pop2 = 88 ∷ []
step_bytes pool (steps.Cast c) = 192 ∷ two (index_of pool (class c))
step_bytes pool (steps.Member a c k) = opcode_of_act a ∷ (two (index_of pool (member (tag_of_act a) c k.name k.descriptor)) ++ behind_use a k.descriptor)
step_bytes pool (steps.Construct c d) = 183 ∷ two (index_of pool (member tags.method_ref c init_name d))
step_bytes pool (steps.Return r) = opcode_of_return r ∷ []

-- the code: one instruction behind the other
abbrev pub steps_bytes : List PoolEntry → List Step → Bytes
steps_bytes pool ss = joined (step_bytes pool) ss

-- ---- the places that values take on the stack, two for a long or a double (JVMS 2.6.2); typing says the same (`AreMost` of TypedItems)

abbrev pub places_of_primitive : Primitive → ℕ
places_of_primitive prims.Int = 1
places_of_primitive prims.Long = 2
places_of_primitive prims.Float = 1
places_of_primitive prims.Double = 2

abbrev pub places_of_kind : Slot → ℕ
places_of_kind kinds.Int = 1
places_of_kind kinds.Long = 2
places_of_kind kinds.Float = 1
places_of_kind kinds.Double = 2
places_of_kind kinds.Ref = 1

-- behind a call without and with an object: its arguments are gone, and its result is there
abbrev pub places_after_static : Bytes → ℕ → ℕ
places_after_static descriptor places = (places - slots_or_none (slots_of_method descriptor)) + slots_returned (method_of descriptor)

abbrev pub places_after_call : Bytes → ℕ → ℕ
places_after_call descriptor places = (places - (slots_or_none (slots_of_method descriptor) + 1)) + slots_returned (method_of descriptor)

abbrev pub places_after_act : Act → Bytes → ℕ → ℕ
places_after_act acts.GetStatic descriptor places = places + slots_of_field (field_of descriptor)
places_after_act acts.PutStatic descriptor places = places - slots_of_field (field_of descriptor)
places_after_act acts.GetField descriptor places = (places - 1) + slots_of_field (field_of descriptor)
places_after_act acts.PutField descriptor places = places - (slots_of_field (field_of descriptor) + 1)
places_after_act acts.InvokeStatic descriptor places = places_after_static descriptor places
places_after_act acts.InvokeStaticInterface descriptor places = places_after_static descriptor places
places_after_act _ descriptor places = places_after_call descriptor places

-- the places behind an instruction, with so many before it
abbrev pub places_after_step : Step → ℕ → ℕ
places_after_step steps.Null places = places + 1
places_after_step (steps.Zero p) places = places + places_of_primitive p
places_after_step (steps.Load s i) places = places + places_of_kind s
places_after_step (steps.New c) places = places + 1
places_after_step steps.Dup places = places + 1
places_after_step steps.Pop places = places - 1
places_after_step steps.Pop2 places = places - 2
places_after_step (steps.Cast c) places = places
places_after_step (steps.Member a c k) places = places_after_act a k.descriptor places
places_after_step (steps.Construct c d) places = places - (slots_or_none (slots_of_method d) + 1)
places_after_step (steps.Return r) places = 0

-- the largest number of places from here on, with so many now
abbrev pub most_from : ℕ → List Step → ℕ
most_from places [] = places
most_from places (s ∷ ss) = max places (most_from (places_after_step s places) ss)

-- of a whole body, which begins with an empty stack
abbrev pub places_at_most : List Step → ℕ
places_at_most ss = most_from 0 ss
