-- The code of a body that is written types to what its steps type to.
use Rattle.std.proofs.Common.{◌≡◌, ℕ, zero, suc, ◌+◌, ◌≤◌, Bool, true, false, List, [], ◌∷◌, ◌++◌, length, drop, get_or, Option, Some, None, Ok, refl, sym, ap, subst, ◌∙◌, arith}
use Rattle.std.proofs.lemmas.List.{drop_at, length-append}
use Rattle.std.specs.Prelude.{is_some}
use Rattle.jc_facts.specs.declared.client.Item.{Item}
use Rattle.jc_facts.specs.declared.blueprint.Slot.{Slot}
use Rattle.jc_facts.specs.declared.blueprint.Step.{Step}
use Rattle.jc_facts.specs.declared.blueprint.Step.TheVariants as steps
use Rattle.jc_facts.specs.file.Attributes.{◌|>>◌}
use Rattle.jc_facts.specs.Names.{Bytes}
use Rattle.jc_facts.specs.written.PoolEntries.{PoolEntry}
use Rattle.jc_facts.specs.written.Bodies.{step_bytes, steps_bytes}
use Rattle.jc_facts.specs.code.Code.{Around, operand, used}
use Rattle.jc_facts.specs.code.Lengths.{instruction_length}
use Rattle.jc_facts.specs.code.Typing.{Kind, Frame, Instruction, run, decode, step_at, is_return, is_nil, typed_at, Kinds, method_kinds, start_of, typed_code}
use Rattle.jc_facts.specs.written.TypedSteps.{instruction_of, typed_steps, step_len, returned}
use Rattle.jc_facts.specs.written.Bodies.{opcode_of_return}
use Rattle.jc_facts.specs.declared.blueprint.Slot.TheVariants as kinds
use Rattle.std.proofs.Common.{cond, nat_lt}

-- a step that isn't a return: its bytes are read as its instruction, whatever comes behind
pub record IsStepRead (a : Around) (pc : ℕ) (s : Step) (bytes : Bytes) : Type 0 where
  pub op : ℕ
  pub tail : Bytes
  pub whole : bytes ≡ op ∷ tail
  pub no_return : is_return op ≡ false
  pub len : (rest : Bytes) → instruction_length pc op (tail ++ rest) ≡ Ok (suc (length tail))
  pub used_is : (rest : Bytes) → is_some (used a op (operand op (tail ++ rest))) ≡ true
  pub decoded : (rest : Bytes) → decode a op (get_or (tail ++ rest) 0 0) (operand op (tail ++ rest)) ≡ instruction_of s

abbrev pub Rest : Type 0
Rest = Option (List Item)

abbrev pub Ran : Type 0
Ran = List Item × Frame

abbrev Timed : Type 0
Timed = ℕ × List Item × Frame

abbrev timed : ℕ → Ran → Option Timed
timed len one = Some (len, one.0, one.1)

abbrev Sized : Type 0
Sized = ℕ × Instruction

abbrev sized : ℕ → Instruction → Option Sized
sized len i = Some (len, i)

abbrev run_sized : Around → ℕ → Frame → Sized → Option Timed
run_sized a pc f i = run a pc i.1 f |>> timed i.0

abbrev pub joined_items : List Item → Rest → Rest
joined_items items o = o |>> λ others. Some (items ++ others)

abbrev go_on : Around → Option Kind → ℕ → ℕ → Bytes → Timed → Rest
go_on a due n pc all one = joined_items one.1 (typed_at a due n (pc + one.0) one.2 (drop one.0 all))

abbrev go_after : Around → Option Kind → ℕ → ℕ → ℕ → Bytes → Ran → Rest
go_after a due n pc len rest one = joined_items one.0 (typed_at a due n (pc + len) one.1 rest)

pub drop_tail : (op : ℕ) (tail rest : Bytes) → drop (suc (length tail)) (op ∷ (tail ++ rest)) ≡ rest
drop_tail op tail rest = drop_at (op ∷ tail) rest (suc (length tail)) refl

after : (a : Around) (due : Option Kind) (n pc : ℕ) (len : ℕ) (all rest : Bytes) → drop len all ≡ rest → (o : Option Ran)
    → ((o |>> timed len) |>> go_on a due n pc all) ≡ (o |>> go_after a due n pc len rest)
after a due n pc len all rest d None = refl
after a due n pc len all rest d (Some one) = ap (λ (bs : Bytes). joined_items one.0 (typed_at a due n (pc + len) one.1 bs)) d

ran : (a : Around) (due : Option Kind) (n pc : ℕ) (f : Frame) (len : ℕ) (all rest : Bytes) → drop len all ≡ rest → (i : Option Instruction)
    → (((i |>> sized len) |>> run_sized a pc f) |>> go_on a due n pc all) ≡ (i |>> λ j. run a pc j f |>> go_after a due n pc len rest)
ran a due n pc f len all rest d None = refl
ran a due n pc f len all rest d (Some j) = after a due n pc len all rest d (run a pc j f)

pub typed_step : (a : Around) (due : Option Kind) (n pc : ℕ) (f : Frame) (s : Step) (bytes rest : Bytes) → (r : IsStepRead a pc s bytes)
    → typed_at a due (suc n) pc f (r.op ∷ (r.tail ++ rest)) ≡ (instruction_of s |>> λ j. run a pc j f |>> go_after a due n pc (suc (length r.tail)) rest)
unfolding typed_at step_at
typed_step a due n pc f s bytes rest r =
    rw (r.no_return, r.len rest, r.decoded rest) (ran a due n pc f (suc (length r.tail)) (r.op ∷ (r.tail ++ rest)) rest (drop_tail r.op r.tail rest) (instruction_of s))

-- ---- all steps

abbrev pub HasRead : Around → List PoolEntry → Step → Type 0
HasRead a pool s = (pc : ℕ) → IsStepRead a pc s (step_bytes pool s)

-- each step that isn't a return is read
abbrev pub AreRead : Around → List PoolEntry → List Step → Type 0
AreRead a pool [] = Unit {0}
AreRead a pool (steps.Return r ∷ ss) = AreRead a pool ss
AreRead a pool (s ∷ ss) = HasRead a pool s × AreRead a pool ss

-- whatever the pool
same_len : (pool : List PoolEntry) (s : Step) → length (step_bytes pool s) ≡ step_len s
same_len pool (steps.Load s i) = refl
same_len pool _ = refl

abbrev Typed : Around → Option Kind → List PoolEntry → List Step → Type 0
Typed a due pool ss = (n pc : ℕ) (f : Frame) → length (steps_bytes pool ss) ≤ n → typed_at a due n pc f (steps_bytes pool ss) ≡ typed_steps a due pc f ss

abbrev pub next_steps : Around → Option Kind → ℕ → List Step → Ran → Rest
next_steps a due pc ss one = joined_items one.0 (typed_steps a due pc one.1 ss)

behind : (a : Around) (due : Option Kind) (pool : List PoolEntry) (ss : List Step) (n pc len k : ℕ) → len ≡ k → length (steps_bytes pool ss) ≤ n → Typed a due pool ss → (o : Option Ran)
    → (o |>> go_after a due n pc len (steps_bytes pool ss)) ≡ (o |>> next_steps a due (pc + k) ss)
behind a due pool ss n pc len k e l ih None = refl
behind a due pool ss n pc len k e l ih (Some one) =
    ap (λ (m : ℕ). joined_items one.0 (typed_at a due n (pc + m) one.1 (steps_bytes pool ss))) e ∙ ap (λ (o : Rest). joined_items one.0 o) (ih n (pc + k) one.1 l)

of_instruction : (a : Around) (due : Option Kind) (pool : List PoolEntry) (ss : List Step) (n pc len k : ℕ) (f : Frame) → len ≡ k → length (steps_bytes pool ss) ≤ n → Typed a due pool ss → (i : Option Instruction)
    → (i |>> λ j. run a pc j f |>> go_after a due n pc len (steps_bytes pool ss)) ≡ (i |>> λ j. run a pc j f |>> next_steps a due (pc + k) ss)
of_instruction a due pool ss n pc len k f e l ih None = refl
of_instruction a due pool ss n pc len k f e l ih (Some j) = behind a due pool ss n pc len k e l ih (run a pc j f)

typed_one : (a : Around) (due : Option Kind) (pool : List PoolEntry) (s : Step) (ss : List Step) → HasRead a pool s → Typed a due pool ss → (n pc : ℕ) (f : Frame) → length (step_bytes pool s ++ steps_bytes pool ss) ≤ n
    → typed_at a due n pc f (step_bytes pool s ++ steps_bytes pool ss) ≡ (instruction_of s |>> λ j. run a pc j f |>> next_steps a due (pc + step_len s) ss)
typed_one a due pool s ss h ih zero pc f l =
    let r = h pc in
    let e = ap (λ (bs : Bytes). length (bs ++ steps_bytes pool ss)) r.whole in
    absurd (let q : suc (length (r.tail ++ steps_bytes pool ss)) ≤ 0 = subst (λ (k : ℕ). k ≤ 0) e l in omega (arith, q))
typed_one a due pool s ss h ih (suc n) pc f l =
    let r = h pc in
    let rest : Bytes = steps_bytes pool ss in
    let e = ap (λ (bs : Bytes). length (bs ++ rest)) r.whole in
    let q : suc (length (r.tail ++ rest)) ≤ suc n = subst (λ (k : ℕ). k ≤ suc n) e l in
    let m = length-append r.tail rest in
    let len : suc (length r.tail) ≡ step_len s = sym (ap (λ (bs : Bytes). length bs) r.whole) ∙ same_len pool s in
    let few : length rest ≤ n = omega (arith, q, m) in
    ap (λ (bs : Bytes). typed_at a due (suc n) pc f (bs ++ rest)) r.whole ∙ typed_step a due n pc f s (step_bytes pool s) rest r
    ∙ of_instruction a due pool ss n pc (suc (length r.tail)) (step_len s) f len few ih (instruction_of s)

-- ---- returns

is_a_return : (r : Option Slot) → is_return (opcode_of_return r) ≡ true
is_a_return None = refl
is_a_return (Some kinds.Int) = refl
is_a_return (Some kinds.Long) = refl
is_a_return (Some kinds.Float) = refl
is_a_return (Some kinds.Double) = refl
is_a_return (Some kinds.Ref) = refl

not_nil : (o : Bool) (x y : Bytes) (more : Bytes) → is_nil x ≡ false → is_nil y ≡ false → is_nil (cond o x y ++ more) ≡ false
not_nil true [] y more h k = absurd cc
not_nil true (b ∷ bs) y more h k = refl
not_nil false x [] more h k = absurd cc
not_nil false x (b ∷ bs) more h k = refl

pub has_bytes : (pool : List PoolEntry) (s : Step) (more : Bytes) → is_nil (step_bytes pool s ++ more) ≡ false
has_bytes pool (steps.Load s i) more = not_nil (nat_lt i 4) _ _ more refl refl
has_bytes pool _ more = refl

typed_return : (a : Around) (due : Option Kind) (pool : List PoolEntry) (r : Option Slot) (ss : List Step) (n pc : ℕ) (f : Frame) → suc (length (steps_bytes pool ss)) ≤ n
    → typed_at a due n pc f (opcode_of_return r ∷ steps_bytes pool ss) ≡ returned a due f r ss
unfolding typed_at
typed_return a due pool r ss zero pc f l = absurd (omega (arith, l))
typed_return a due pool r [] (suc n) pc f l = rw (is_a_return r) refl
typed_return a due pool r (s ∷ ss) (suc n) pc f l = rw (is_a_return r, has_bytes pool s (steps_bytes pool ss)) refl

none_typed : (a : Around) (due : Option Kind) (n pc : ℕ) (f : Frame) → typed_at a due n pc f [] ≡ None
unfolding typed_at
none_typed a due zero pc f = refl
none_typed a due (suc n) pc f = refl

pub typed_all : (a : Around) (due : Option Kind) (pool : List PoolEntry) (ss : List Step) → AreRead a pool ss → Typed a due pool ss
unfolding typed_steps
typed_all a due pool [] h = λ n pc f l. none_typed a due n pc f
typed_all a due pool (steps.Return r ∷ ss) h = λ n pc f l. typed_return a due pool r ss n pc f l
typed_all a due pool (s ∷ ss) h = typed_one a due pool s ss h.0 (typed_all a due pool ss h.1)

-- ---- the whole code

from_start : (a : Around) (pool : List PoolEntry) (ss : List Step) → AreRead a pool ss → (o : Option Kinds) → (o |>> λ m. typed_at a m.result (length (steps_bytes pool ss)) 0 (start_of a m.params) (steps_bytes pool ss)) ≡ (o |>> λ m. typed_steps a m.result 0 (start_of a m.params) ss)
from_start a pool ss h None = refl
from_start a pool ss h (Some m) = typed_all a m.result pool ss h (length (steps_bytes pool ss)) 0 (start_of a m.params) (omega arith)

pub code_types : (a : Around) (pool : List PoolEntry) (ss : List Step) → AreRead a pool ss → typed_code a (record { start = 8; bytes = steps_bytes pool ss; catches = [] }) ≡ (method_kinds a.descriptor |>> λ m. typed_steps a m.result 0 (start_of a m.params) ss)
unfolding typed_code
code_types a pool ss h = from_start a pool ss h (method_kinds a.descriptor)
