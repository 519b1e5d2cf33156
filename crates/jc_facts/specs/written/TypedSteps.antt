-- What the body of a method types to, step by step, by the typing of instructions (JVMS 2.6.1, 2.6.2, 6.5): `run` and `leave` of Typing
-- say what an instruction and a return do, whether they are read from code or stand in a body.
--     typed_steps a due pc f steps      the items, None where the steps don't type
use Rattle.std.specs.Prelude.{ℕ, ◌+◌, List, [], ◌∷◌, ◌++◌, length, Option, Some, None, if◌then◌else◌}
use Rattle.jc_desc.specs.PoolAnswers.{MemberRefOf}
use Rattle.jc_desc.specs.Tags as tags
use Rattle.jc_facts.specs.declared.client.Item.{Item}
use Rattle.jc_facts.specs.declared.blueprint.Primitive.{Primitive}
use Rattle.jc_facts.specs.declared.blueprint.Primitive.TheVariants as prims
use Rattle.jc_facts.specs.declared.blueprint.Slot.{Slot}
use Rattle.jc_facts.specs.declared.blueprint.Step.{Step}
use Rattle.jc_facts.specs.declared.blueprint.Step.TheVariants as steps
use Rattle.jc_facts.specs.Names.{Bytes}
use Rattle.jc_facts.specs.file.Attributes.{is_array_name, ◌|>>◌}
use Rattle.jc_facts.specs.code.Code.{Around}
use Rattle.jc_facts.specs.code.Typing.{Kind, int, long, float, double, null, Frame, Instruction, pushes, loads, pops, pops_two, dups, makes, casts, uses, constructs, run, leave}
use Rattle.jc_facts.specs.written.Bodies.{tag_of_act, init_name, number_of_kind, opcode_of_return, step_bytes}

abbrev pub zero_kind : Primitive → Kind
zero_kind prims.Int = int
zero_kind prims.Long = long
zero_kind prims.Float = float
zero_kind prims.Double = double

abbrev pub reference : ℕ → Bytes → Bytes → Bytes → MemberRefOf
reference tag class name descriptor = record { tag = tag; class = class; name = name; descriptor = descriptor }

-- a member of an array class is not typed
abbrev pub of_plain : Bytes → Instruction → Option Instruction
of_plain class i = if is_array_name class then None else Some i

-- what a step that isn't a return does
abbrev pub instruction_of : Step → Option Instruction
instruction_of steps.Null = Some (pushes null)
instruction_of (steps.Zero p) = Some (pushes (zero_kind p))
instruction_of (steps.Load s i) = Some (loads (number_of_kind s) i)
instruction_of (steps.New c) = Some (makes c)
instruction_of steps.Dup = Some dups
instruction_of steps.Pop = Some pops
instruction_of steps.Pop2 = Some pops_two
instruction_of (steps.Cast c) = Some (casts c)
instruction_of (steps.Member a c k) = of_plain c (uses a (reference (tag_of_act a) c k.name k.descriptor))
instruction_of (steps.Construct c d) = of_plain c (constructs (reference tags.method_ref c init_name d))
instruction_of (steps.Return r) = None

-- how long its code is, whatever the pool: each index takes two bytes
abbrev pub step_len : Step → ℕ
step_len s = length (step_bytes [] s)

-- a return is the last step
abbrev pub returned : Around → Option Kind → Frame → Option Slot → List Step → Option (List Item)
returned a due f r [] = leave a (opcode_of_return r) f due
returned a due f r (s ∷ ss) = None

-- from this place of the code and this frame on, with this result due; the only return is the last step
unfoldable pub typed_steps : Around → Option Kind → ℕ → Frame → List Step → Option (List Item)
typed_steps a due pc f [] = None
typed_steps a due pc f (steps.Return r ∷ ss) = returned a due f r ss
typed_steps a due pc f (s ∷ ss) = instruction_of s |>> λ i. run a pc i f |>> λ one. typed_steps a due (pc + step_len s) one.1 ss |>> λ others. Some (one.0 ++ others)
