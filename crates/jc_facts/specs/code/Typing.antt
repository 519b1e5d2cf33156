-- Typing of straight-line methods: the kinds of values on the operand stack and in the locals, instruction by instruction (JVMS 2.6, 4.10.1, 6.5).
-- A method is straight where its exception table is empty, each instruction is one of those below, its only return is the last, and no step
-- fails. The items then say of which type receivers are, and which types are assigned.
--     typed_code a c      the items of the code, None where the method isn't straight
use Rattle.std.specs.Prelude.{ℕ, zero, suc, ◌+◌, ◌-◌, ◌/◌, ◌%◌, List, [], ◌∷◌, ◌++◌, length, take, drop, get_or, map, Option, Some, None, Result, Ok, Err, Bool, true, false, ◌==◌, ◌&&◌, ◌||◌, not, nat_lt, codes, if◌then◌else◌}
use Rattle.std.specs.List.{list_any}
use Rattle.std.specs.Option.{option_map}
use Rattle.jc_desc.specs.Names.{is_init_name}
use Rattle.jc_desc.specs.Pool.{PoolOf}
use Rattle.jc_desc.specs.PoolAnswers.{MemberRefOf, class_in, member_ref_in, some_if}
use Rattle.jc_desc.specs.Reading.{field_of, method_of}
use Rattle.jc_desc.specs.Types.{Basic, double as double_type, float as float_type, long as long_type, class, TypeOf, Method, type_text}
use Rattle.jc_facts.specs.declared.act.Act.{Act}
use Rattle.jc_facts.specs.declared.act.Act.TheVariants as act
use Rattle.jc_facts.specs.declared.client.Item.{Item}
use Rattle.jc_facts.specs.declared.client.Item.TheVariants as item
use Rattle.jc_facts.specs.declared.code_fault.CodeReason.{CodeReason}
use Rattle.jc_facts.specs.file.Attributes.{CodeOf, is_array_name, ◌|>>◌}
use Rattle.jc_facts.specs.code.Code.{Around, operand, holds_tag, key_in, place_of, is_own, either}
use Rattle.jc_facts.specs.Flags.{static_flag}
use Rattle.jc_facts.specs.code.Lengths.{is_between, instruction_length}
use Rattle.jc_facts.specs.Names.{Bytes, same}

-- ---- kinds

-- what a value is; `fresh` is made by the `new` at this place of the code and not initialized, `unset` the instance of an `<init>`
-- before its superclass's `<init>` was called; `empty` is a local without a value, or the second place of a long or a double
pub data Kind : Type 0 where
  int : Kind
  long : Kind
  float : Kind
  double : Kind
  null : Kind
  ref : Bytes → Kind
  fresh : ℕ → Bytes → Kind
  unset : Kind
  empty : Kind

-- it takes two places, on the stack and in the locals (JVMS 2.6.1, 2.6.2)
abbrev pub takes_two : Kind → Bool
takes_two long = true
takes_two double = true
takes_two _ = false

-- the operand stack, its top last, and the locals
pub record Frame : Type 0 where
  pub stack : List Kind
  pub locals : List Kind

-- boolean, byte, char and short are int (JVMS 2.11.1)
abbrev pub basic_kind : Basic → Kind
basic_kind double_type = double
basic_kind float_type = float
basic_kind long_type = long
basic_kind (class name) = ref name
basic_kind _ = int

-- of a value of this type; a reference type is written as a class name or an array descriptor
unfoldable pub kind_of : TypeOf → Kind
kind_of t = if t.dims == 0 then basic_kind t.base else ref (type_text t)

-- ---- values

-- the two are the same kind of primitives
abbrev pub same_kind : Kind → Kind → Bool
same_kind int int = true
same_kind long long = true
same_kind float float = true
same_kind double double = true
same_kind _ _ = false

-- an assignment from one type to another; none to the same
abbrev pub assign : Bytes → Bytes → List Item
assign from to = if same from to then [] else item.Assign from to ∷ []

-- a value where a value of the second kind is due: its Assign, or None where it doesn't fit
unfoldable pub fit : Kind → Kind → Option (List Item)
fit (ref s) (ref t) = Some (assign s t)
fit null (ref t) = Some []
fit k due = some_if (same_kind k due) []

-- the receiver of an item: the type of a reference, not known for null; None where the kind is no receiver
abbrev pub receiver : Kind → Option (Option Bytes)
receiver (ref s) = Some (Some s)
receiver null = Some None
receiver _ = None

-- with this kind below the rest of the stack
abbrev pub popped : Kind → Option (Kind × List Kind) → Option (Kind × List Kind)
popped k None = Some (k, [])
popped k (Some x) = Some (x.0, k ∷ x.1)

-- the top of a stack, and what is below it
unfoldable pub pop : List Kind → Option (Kind × List Kind)
pop [] = None
pop (k ∷ ks) = popped k (pop ks)

-- the Assigns of values where values of these kinds are due, from left to right
unfoldable pub fit_all : List Kind → List Kind → Option (List Item)
fit_all [] [] = Some []
fit_all [] (d ∷ ds) = None
fit_all (k ∷ ks) [] = None
fit_all (k ∷ ks) (d ∷ ds) = fit k d |>> λ one. fit_all ks ds |>> λ others. Some (one ++ others)

-- the last n values of a stack, and what is below them
unfoldable pub taken : ℕ → List Kind → Option (List Kind × List Kind)
taken n stack = if nat_lt (length stack) n then None else Some (drop (length stack - n) stack, take (length stack - n) stack)

-- ---- descriptors

-- the kinds of a method's parameters and of its result
pub record Kinds : Type 0 where
  pub params : List Kind
  pub result : Option Kind

abbrev pub kinds_of : Method → Kinds
kinds_of m = record { params = map kind_of m.params; result = option_map kind_of m.result }

-- None where it is no method descriptor
unfoldable pub method_kinds : Bytes → Option Kinds
method_kinds descriptor = option_map kinds_of (method_of descriptor)

-- None where it is no field descriptor
unfoldable pub field_kind : Bytes → Option Kind
field_kind descriptor = option_map kind_of (field_of descriptor)

-- ---- locals

-- the locals with this one at place n
unfoldable pub set_at : ℕ → Kind → List Kind → List Kind
set_at zero x [] = x ∷ []
set_at zero x (l ∷ ls) = x ∷ ls
set_at (suc n) x [] = empty ∷ set_at n x []
set_at (suc n) x (l ∷ ls) = l ∷ set_at n x ls

-- a long or double whose second place this is becomes empty
unfoldable pub cut : ℕ → List Kind → List Kind
cut zero locals = locals
cut (suc n) locals = if takes_two (get_or locals n empty) then set_at n empty locals else locals

-- the locals with this value from place n on (JVMS 4.10.1.7)
unfoldable pub put : ℕ → Kind → List Kind → List Kind
put n k locals = if takes_two k then set_at (suc n) empty (set_at n k (cut n locals)) else set_at n k (cut n locals)

-- the places of one value
abbrev pub places : Kind → List Kind
places k = if takes_two k then k ∷ empty ∷ [] else k ∷ []

abbrev pub places_of : List Kind → List Kind
places_of [] = []
places_of (k ∷ ks) = places k ++ places_of ks

-- `this` of an instance method
abbrev pub this_of : Around → List Kind
this_of a = if static_flag a.flags then [] else (if is_init_name a.name then unset else ref a.class) ∷ []

-- the frame in front of the first instruction (JVMS 4.10.1.6)
abbrev pub start_of : Around → List Kind → Frame
start_of a params = record { stack = []; locals = this_of a ++ places_of params }

-- ---- initialization: what becomes of the kinds (JVMS 4.10.1.9, invokespecial)

abbrev pub is_unset : Kind → Bool
is_unset unset = true
is_unset _ = false

-- the two are instances that the same `<init>` initializes
abbrev pub is_same_instance : Kind → Kind → Bool
is_same_instance (fresh o c) (fresh p d) = o == p && same c d
is_same_instance unset unset = true
is_same_instance _ _ = false

abbrev pub made : Kind → Bytes → Kind → Kind
made from name k = if is_same_instance from k then ref name else k

-- each of them that is this instance becomes a reference of this class
unfoldable pub all_made : Kind → Bytes → List Kind → List Kind
all_made from name ks = map (made from name) ks

-- ---- what an instruction does: the items and the frame behind it

-- the items of an instruction and the frame behind it, None where it fails
abbrev pub Step : Type 0
Step = Option (List Item × Frame)

abbrev pub go : List Item → List Kind → List Kind → Step
go items stack locals = Some (items, record { stack = stack; locals = locals })

abbrev pub push : Frame → Kind → Step
push f k = go [] (f.stack ++ k ∷ []) f.locals

-- a kind that the loads of number 0 to 4 push, from iload to aload
abbrev pub of_number : ℕ → Kind → Bool
of_number n int = n == 0
of_number n long = n == 1
of_number n float = n == 2
of_number n double = n == 3
of_number n empty = false
of_number n _ = n == 4

-- the local at this place, which must be of the kind of the load
unfoldable pub load : ℕ → ℕ → Frame → Step
load number place f = if of_number number (get_or f.locals place empty) then push f (get_or f.locals place empty) else None

-- the top goes to this place; a store takes no `unset`
unfoldable pub store : ℕ → ℕ → Frame → Step
store number place f = pop f.stack |>> λ top. if of_number number top.0 && not (is_unset top.0) then go [] top.1 (put place top.0 f.locals) else None

-- dup and pop take a top of one place, pop2 one of two places or two of one
unfoldable pub dup : Frame → Step
dup f = pop f.stack |>> λ top. if takes_two top.0 then None else go [] ((top.1 ++ top.0 ∷ []) ++ top.0 ∷ []) f.locals

unfoldable pub pop_one : Frame → Step
pop_one f = pop f.stack |>> λ top. if takes_two top.0 then None else go [] top.1 f.locals

unfoldable pub pop_two : Frame → Step
pop_two f = pop f.stack |>> λ top. if takes_two top.0 then go [] top.1 f.locals else (pop top.1 |>> λ next. if takes_two next.0 then None else go [] next.1 f.locals)

-- checkcast and instanceof
unfoldable pub cast : Bytes → Kind → Frame → Step
cast name gives f = pop f.stack |>> λ top. receiver top.0 |>> λ r. go (item.Class name ∷ []) (top.1 ++ gives ∷ []) f.locals

-- a push that names a class: new, and ldc of a Class
abbrev pub push_with : Frame → Bytes → Kind → Step
push_with f name k = go (item.Class name ∷ []) (f.stack ++ k ∷ []) f.locals

-- an act on a member with this receiver
abbrev pub use_of : Around → Act → MemberRefOf → Option Bytes → Item
use_of a what m r = item.Access what m.class (key_in m) r (place_of a.name)

-- the acts on fields: getstatic, putstatic, getfield, putfield
unfoldable pub get_static : Around → MemberRefOf → Frame → Step
get_static a m f = field_kind m.descriptor |>> λ k. go (use_of a act.GetStatic m None ∷ []) (f.stack ++ k ∷ []) f.locals

unfoldable pub put_static : Around → MemberRefOf → Frame → Step
put_static a m f = field_kind m.descriptor |>> λ k. pop f.stack |>> λ value. fit value.0 k |>> λ more. go (use_of a act.PutStatic m None ∷ more) value.1 f.locals

unfoldable pub get_field : Around → MemberRefOf → Frame → Step
get_field a m f = field_kind m.descriptor |>> λ k. pop f.stack |>> λ top. receiver top.0 |>> λ r. go (use_of a act.GetField m r ∷ []) (top.1 ++ k ∷ []) f.locals

unfoldable pub put_field : Around → MemberRefOf → Frame → Step
put_field a m f = field_kind m.descriptor |>> λ k. pop f.stack |>> λ value. pop value.1 |>> λ top. receiver top.0 |>> λ r. fit value.0 k |>> λ more. go (use_of a act.PutField m r ∷ more) top.1 f.locals

abbrev pub with_result : Option Kind → List Kind → List Kind
with_result None stack = stack
with_result (Some k) stack = stack ++ k ∷ []

-- invokestatic
unfoldable pub call_static : Around → Act → MemberRefOf → Frame → Step
call_static a what m f = method_kinds m.descriptor |>> λ d. taken (length d.params) f.stack |>> λ args. fit_all args.0 d.params |>> λ more. go (use_of a what m None ∷ more) (with_result d.result args.1) f.locals

-- the other invoke acts
unfoldable pub call : Around → Act → MemberRefOf → Frame → Step
call a what m f = method_kinds m.descriptor |>> λ d. taken (length d.params) f.stack |>> λ args. pop args.1 |>> λ top. receiver top.0 |>> λ r. fit_all args.0 d.params |>> λ more. go (use_of a what m r ∷ more) (with_result d.result top.1) f.locals

-- the item of `<init>` of this class and the name that the instance gets, where it is called on this kind
unfoldable pub initialized : Around → MemberRefOf → Kind → Option (Item × Bytes)
initialized a m (fresh at c) = if same m.class c then Some (item.New c m.descriptor, c) else None
initialized a m unset = if is_own a m.class then Some (item.Init m.class m.descriptor, a.class) else None
initialized a m _ = None

-- invokespecial of `<init>`: every copy of the instance is initialized
unfoldable pub construct : Around → MemberRefOf → Frame → Step
construct a m f = method_kinds m.descriptor |>> λ d. taken (length d.params) f.stack |>> λ args. pop args.1 |>> λ top. initialized a m top.0 |>> λ i. fit_all args.0 d.params |>> λ more. go (i.0 ∷ more) (all_made top.0 i.1 top.1) (all_made top.0 i.1 f.locals)

-- a field or invoke act
unfoldable pub act_on : Around → Act → MemberRefOf → Frame → Step
act_on a act.GetStatic m f = get_static a m f
act_on a act.PutStatic m f = put_static a m f
act_on a act.GetField m f = get_field a m f
act_on a act.PutField m f = put_field a m f
act_on a act.InvokeStatic m f = call_static a act.InvokeStatic m f
act_on a act.InvokeStaticInterface m f = call_static a act.InvokeStaticInterface m f
act_on a what m f = call a what m f

-- ---- instructions of straight methods that aren't returns, with what their pool entries hold

pub data Instruction : Type 0 where
  nothing : Instruction
  pushes : Kind → Instruction
  loads_class : Bytes → Instruction
  loads : ℕ → ℕ → Instruction
  stores : ℕ → ℕ → Instruction
  pops : Instruction
  pops_two : Instruction
  dups : Instruction
  makes : Bytes → Instruction
  casts : Bytes → Instruction
  tests : Bytes → Instruction
  uses : Act → MemberRefOf → Instruction
  constructs : MemberRefOf → Instruction

unfoldable pub run : Around → ℕ → Instruction → Frame → Step
run a pc nothing f = go [] f.stack f.locals
run a pc (pushes k) f = push f k
run a pc (loads_class name) f = push_with f name (ref (codes "java/lang/Class"))
run a pc (loads number place) f = load number place f
run a pc (stores number place) f = store number place f
run a pc pops f = pop_one f
run a pc pops_two f = pop_two f
run a pc dups f = dup f
run a pc (makes name) f = push_with f name (fresh pc name)
run a pc (casts name) f = cast name (ref name) f
run a pc (tests name) f = cast name int f
run a pc (uses what m) f = act_on a what m f
run a pc (constructs m) f = construct a m f

-- ldc and ldc_w: Integer 3, Float 4, String 8, Class; other entries aren't straight
unfoldable pub constant_in : PoolOf → ℕ → Option Instruction
constant_in pool i =
    if holds_tag pool i 3 then Some (pushes int)
    else if holds_tag pool i 4 then Some (pushes float)
    else if holds_tag pool i 8 then Some (pushes (ref (codes "java/lang/String")))
    else (class_in pool i |>> λ name. Some (loads_class name))

-- ldc2_w: Long 5, Double 6; Dynamic isn't straight
abbrev pub wide_in : PoolOf → ℕ → Option Instruction
wide_in pool i = if holds_tag pool i 5 then Some (pushes long) else if holds_tag pool i 6 then Some (pushes double) else None

-- a member of a class that isn't an array
abbrev pub plain_in : Around → ℕ → Option MemberRefOf
plain_in a i = member_ref_in a.pool i |>> λ m. some_if (not (is_array_name m.class)) m

-- a field or invoke act, the second where the reference names an interface's method
abbrev pub act_in : Around → Act → Act → ℕ → Option Instruction
act_in a what interface i = plain_in a i |>> λ m. Some (uses (either m what interface) m)

-- invokespecial
abbrev pub special_in : Around → ℕ → Option Instruction
special_in a i = plain_in a i |>> λ m. Some (if is_init_name m.name then constructs m else uses (either m act.InvokeSpecial act.InvokeSpecialInterface) m)

-- new, checkcast, instanceof
abbrev pub of_class : Around → ℕ → (Bytes → Instruction) → Option Instruction
of_class a i of = class_in a.pool i |>> λ name. Some (of name)

-- those without a pool entry, by the opcode and the byte behind it:
--     0 nop; 1 aconst_null; 2 to 8 iconst, 16 bipush, 17 sipush; 9, 10 lconst; 11 to 13 fconst; 14, 15 dconst;
--     21 to 25 loads from iload to aload, 26 to 45 their short forms; 54 to 58 stores from istore to astore, 59 to 78 their short forms;
--     87 pop; 88 pop2; 89 dup
unfoldable pub plain_instruction : ℕ → ℕ → Option Instruction
plain_instruction op near =
    if op == 0 then Some nothing
    else if op == 1 then Some (pushes null)
    else if is_between 2 8 op || op == 16 || op == 17 then Some (pushes int)
    else if op == 9 || op == 10 then Some (pushes long)
    else if is_between 11 13 op then Some (pushes float)
    else if op == 14 || op == 15 then Some (pushes double)
    else if is_between 21 25 op then Some (loads (op - 21) near)
    else if is_between 26 45 op then Some (loads ((op - 26) / 4) ((op - 26) % 4))
    else if is_between 54 58 op then Some (stores (op - 54) near)
    else if is_between 59 78 op then Some (stores ((op - 59) / 4) ((op - 59) % 4))
    else if op == 87 then Some pops
    else if op == 88 then Some pops_two
    else if op == 89 then Some dups
    else None

-- those with one, by its index:
--     18 ldc, 19 ldc_w; 20 ldc2_w; 178 getstatic; 179 putstatic; 180 getfield; 181 putfield;
--     182 invokevirtual; 183 invokespecial; 184 invokestatic; 185 invokeinterface; 187 new; 192 checkcast; 193 instanceof
unfoldable pub entry_instruction : Around → ℕ → ℕ → Option Instruction
entry_instruction a op i =
    if op == 18 || op == 19 then constant_in a.pool i
    else if op == 20 then wide_in a.pool i
    else if op == 178 then act_in a act.GetStatic act.GetStatic i
    else if op == 179 then act_in a act.PutStatic act.PutStatic i
    else if op == 180 then act_in a act.GetField act.GetField i
    else if op == 181 then act_in a act.PutField act.PutField i
    else if op == 182 then act_in a act.InvokeVirtual act.InvokeVirtual i
    else if op == 183 then special_in a i
    else if op == 184 then act_in a act.InvokeStatic act.InvokeStaticInterface i
    else if op == 185 then act_in a act.InvokeInterface act.InvokeInterface i
    else if op == 187 then of_class a i makes
    else if op == 192 then of_class a i casts
    else if op == 193 then of_class a i tests
    else None

-- ldc, ldc_w and ldc2_w, and all from getstatic on
abbrev pub takes_entry : ℕ → Bool
takes_entry op = is_between 18 20 op || not (nat_lt op 178)

-- of this opcode, with the byte behind it and its pool index
unfoldable pub decode : Around → ℕ → ℕ → ℕ → Option Instruction
decode a op near i = if takes_entry op then entry_instruction a op i else plain_instruction op near

-- ---- returns

-- 172 ireturn, 173 lreturn, 174 freturn, 175 dreturn, 176 areturn, 177 return
abbrev pub is_return : ℕ → Bool
is_return op = is_between 172 177 op

-- a return of a value: it is of the kind that the opcode returns, and fits the result
unfoldable pub value_fits : ℕ → List Kind → Kind → Option (List Item)
value_fits op stack due = if op == 177 then None else (pop stack |>> λ top. if of_number (op - 172) top.0 then fit top.0 due else None)

abbrev pub result_fits : ℕ → List Kind → Option Kind → Option (List Item)
result_fits op stack None = some_if (op == 177) []
result_fits op stack (Some k) = value_fits op stack k

-- a return; in an `<init>` no `unset` may be left, neither on the stack nor in a local (JVMS 4.10.1.9, return)
unfoldable pub leave : Around → ℕ → Frame → Option Kind → Option (List Item)
leave a op f due = if is_init_name a.name && (list_any is_unset f.stack || list_any is_unset f.locals) then None else result_fits op f.stack due

-- ---- the whole code

abbrev pub length_of : Result ℕ CodeReason → Option ℕ
length_of (Ok n) = Some n
length_of (Err reason) = None

-- the length of an instruction that isn't a return, and the instruction
abbrev pub decoded_at : Around → ℕ → ℕ → Bytes → Option (ℕ × Instruction)
decoded_at a pc op rest = length_of (instruction_length pc op rest) |>> λ len. decode a op (get_or rest 0 0) (operand op rest) |>> λ i. Some (len, i)

-- its length, its items and the frame behind it
unfoldable pub step_at : Around → ℕ → Frame → ℕ → Bytes → Option (ℕ × List Item × Frame)
step_at a pc f op rest = decoded_at a pc op rest |>> λ i. run a pc i.1 f |>> λ one. Some (i.0, one.0, one.1)

abbrev pub is_nil : Bytes → Bool
is_nil [] = true
is_nil (x ∷ xs) = false

-- code from this place on, of which at most n bytes are left, with this result due; the only return is the last instruction
unfoldable pub typed_at : Around → Option Kind → ℕ → ℕ → Frame → Bytes → Option (List Item)
typed_at a due zero pc f bytes = None
typed_at a due (suc n) pc f [] = None
typed_at a due (suc n) pc f (op ∷ rest) =
    if is_return op then (if is_nil rest then leave a op f due else None)
    else (step_at a pc f op rest |>> λ one. typed_at a due n (pc + one.0) one.2 (drop one.0 (op ∷ rest)) |>> λ others. Some (one.1 ++ others))

-- the items of a straight method, None where it isn't straight
unfoldable pub typed_code : Around → CodeOf → Option (List Item)
typed_code a c = if is_nil c.catches then (method_kinds a.descriptor |>> λ m. typed_at a m.result (length c.bytes) 0 (start_of a m.params) c.bytes) else None
