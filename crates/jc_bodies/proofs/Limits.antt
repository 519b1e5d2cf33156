-- How long the code, the stack and the pool of few instructions are at most.
use Rattle.std.proofs.Common.{◌≡◌, ◌≤◌, ℕ, ◌+◌, ◌*◌, Bool, true, false, cond, List, [], ◌∷◌, ◌++◌, length, Option, Some, None, refl, ◌∙◌, arith, nat_eq, nat_lt, lit≤}
use Rattle.std.specs.List.{list_all}
use Rattle.std.proofs.lemmas.Bool.{and_parts, and_from}
use Rattle.std.proofs.lemmas.List.{length-append}
use Rattle.std.proofs.lemmas.List.Folds.{list_all-append}
use Rattle.jc_desc.specs.Reading.{field_of, method_of}
use Rattle.jc_desc.specs.Slots.{slots_returned, slots_of_field, slots_of_result}
use Rattle.jc_desc.specs.Types.{Basic, byte, char, double as double_type, float as float_type, int as int_type, long as long_type, short, boolean, class as class_basic, TypeOf, Method, slots_of_basic, slots_of_type}
use Rattle.jc_facts.specs.declared.act.Act.{Act}
use Rattle.jc_facts.specs.declared.act.Act.TheVariants as acts
use Rattle.jc_facts.specs.declared.blueprint.Primitive.{Primitive}
use Rattle.jc_facts.specs.declared.blueprint.Primitive.TheVariants as prims
use Rattle.jc_facts.specs.declared.blueprint.Slot.{Slot}
use Rattle.jc_facts.specs.declared.blueprint.Slot.TheVariants as kinds
use Rattle.jc_facts.specs.declared.blueprint.Step.{Step}
use Rattle.jc_facts.specs.declared.blueprint.Step.TheVariants as steps
use Rattle.jc_facts.specs.Names.{Bytes}
use Rattle.jc_facts.specs.written.PoolEntries.{PoolEntry, text, class, pair, member, has, add, collected, with_parts, all_parts, fits}
use Rattle.jc_facts.specs.written.Bodies.{step_needs, steps_needs, load_bytes, number_of_kind, step_bytes, steps_bytes, places_of_primitive, places_of_kind, places_after_act, places_after_step, most_from, places_at_most}

-- ---- code

either_length : (b : Bool) (xs ys : Bytes) → length xs ≤ 5 → length ys ≤ 5 → length (cond b xs ys) ≤ 5
either_length true xs ys h k = h
either_length false xs ys h k = k

load_length : (kind local : ℕ) → length (load_bytes kind local) ≤ 5
load_length kind local = either_length (nat_lt local 4) _ _ (lit≤ tt) (lit≤ tt)

step_length : (pool : List PoolEntry) (s : Step) → length (step_bytes pool s) ≤ 5
step_length pool steps.Null = lit≤ tt
step_length pool (steps.Zero p) = lit≤ tt
step_length pool (steps.Load s i) = load_length (number_of_kind s) i
step_length pool (steps.New c) = lit≤ tt
step_length pool steps.Dup = lit≤ tt
step_length pool steps.Pop = lit≤ tt
step_length pool steps.Pop2 = lit≤ tt
step_length pool (steps.Cast c) = lit≤ tt
step_length pool (steps.Construct c d) = lit≤ tt
step_length pool (steps.Return r) = lit≤ tt
step_length pool (steps.Member acts.InvokeInterface c k) = lit≤ tt
step_length pool (steps.Member _ c k) = lit≤ tt

-- an instruction has at most five bytes
pub code_length : (pool : List PoolEntry) (ss : List Step) → length (steps_bytes pool ss) ≤ 5 * length ss
code_length pool [] = lit≤ tt
code_length pool (s ∷ ss) = omega (arith, length-append (step_bytes pool s) (steps_bytes pool ss), step_length pool s, code_length pool ss)

-- ---- the stack

type_places : (t : TypeOf) → slots_of_type t ≤ 2
type_places t = go (nat_eq t.dims 0) t.base
  where
    go : (b : Bool) (x : Basic) → cond b (slots_of_basic x) 1 ≤ 2
    go false x = lit≤ tt
    go true byte = lit≤ tt
    go true char = lit≤ tt
    go true double_type = lit≤ tt
    go true float_type = lit≤ tt
    go true int_type = lit≤ tt
    go true long_type = lit≤ tt
    go true short = lit≤ tt
    go true boolean = lit≤ tt
    go true (class_basic name) = lit≤ tt

field_places : (o : Option TypeOf) → slots_of_field o ≤ 2
field_places None = lit≤ tt
field_places (Some t) = type_places t

returned_places : (o : Option Method) → slots_returned o ≤ 2
returned_places None = lit≤ tt
returned_places (Some m) = go m.result
  where
    go : (o : Option TypeOf) → slots_of_result o ≤ 2
    go None = lit≤ tt
    go (Some t) = type_places t

act_places : (what : Act) (d : Bytes) (n : ℕ) → places_after_act what d n ≤ n + 2
act_places acts.GetStatic d n = omega (arith, field_places (field_of d))
act_places acts.PutStatic d n = omega arith
act_places acts.GetField d n = omega (arith, field_places (field_of d))
act_places acts.PutField d n = omega arith
act_places acts.InvokeStatic d n = omega (arith, returned_places (method_of d))
act_places acts.InvokeStaticInterface d n = omega (arith, returned_places (method_of d))
act_places _ d n = omega (arith, returned_places (method_of d))

prim_most : (p : Primitive) → places_of_primitive p ≤ 2
prim_most prims.Int = lit≤ tt
prim_most prims.Long = lit≤ tt
prim_most prims.Float = lit≤ tt
prim_most prims.Double = lit≤ tt

kind_most : (s : Slot) → places_of_kind s ≤ 2
kind_most kinds.Int = lit≤ tt
kind_most kinds.Long = lit≤ tt
kind_most kinds.Float = lit≤ tt
kind_most kinds.Double = lit≤ tt
kind_most kinds.Ref = lit≤ tt

step_places : (s : Step) (n : ℕ) → places_after_step s n ≤ n + 2
step_places steps.Null n = omega arith
step_places (steps.Zero p) n = omega (arith, prim_most p)
step_places (steps.Load s i) n = omega (arith, kind_most s)
step_places (steps.New c) n = omega arith
step_places steps.Dup n = omega arith
step_places steps.Pop n = omega arith
step_places steps.Pop2 n = omega arith
step_places (steps.Cast c) n = omega arith
step_places (steps.Construct c d) n = omega arith
step_places (steps.Return r) n = omega arith
step_places (steps.Member what c k) n = act_places what k.descriptor n

most_of : (n : ℕ) (ss : List Step) → most_from n ss ≤ n + 2 * length ss
most_of n [] = omega arith
most_of n (s ∷ ss) = omega (arith, step_places s n, most_of (places_after_step s n) ss)

-- an instruction pushes at most two places
pub stack_height : (ss : List Step) → places_at_most ss ≤ 2 * length ss
stack_height ss = omega (arith, most_of 0 ss)

-- ---- the pool

-- the texts of the entry and of its parts fit
abbrev pub is_short : PoolEntry → Bool
is_short e = list_all fits (with_parts e)

pub parts_fit : (es : List PoolEntry) → list_all is_short es ≡ true → list_all fits (all_parts es) ≡ true
parts_fit [] h = refl
parts_fit (e ∷ es) h =
    let p = and_parts (is_short e) (list_all is_short es) h in
    list_all-append fits (with_parts e) (all_parts es) ∙ and_from (is_short e) (list_all fits (all_parts es)) p.0 (parts_fit es p.1)

entry_parts : (e : PoolEntry) → length (with_parts e) ≤ 6
entry_parts (text t) = lit≤ tt
entry_parts (class c) = lit≤ tt
entry_parts (pair n d) = lit≤ tt
entry_parts (member t c n d) = lit≤ tt

pub parts_length : (es : List PoolEntry) → length (all_parts es) ≤ 6 * length es
parts_length [] = lit≤ tt
parts_length (e ∷ es) = omega (arith, length-append (with_parts e) (all_parts es), entry_parts e, parts_length es)

added_length : (pool : List PoolEntry) (e : PoolEntry) → length (add pool e) ≤ length pool + 1
added_length pool e = go (has pool e)
  where
    go : (b : Bool) → length (cond b pool (pool ++ e ∷ [])) ≤ length pool + 1
    go true = omega arith
    go false = omega (arith, length-append pool (e ∷ []))

pub collected_length : (pool es : List PoolEntry) → length (collected pool es) ≤ length pool + length es
collected_length pool [] = omega arith
collected_length pool (e ∷ es) = omega (arith, added_length pool e, collected_length (add pool e) es)

one_need : (s : Step) → length (step_needs s) ≤ 1
one_need steps.Null = lit≤ tt
one_need (steps.Zero p) = lit≤ tt
one_need (steps.Load s i) = lit≤ tt
one_need (steps.New c) = lit≤ tt
one_need steps.Dup = lit≤ tt
one_need steps.Pop = lit≤ tt
one_need steps.Pop2 = lit≤ tt
one_need (steps.Cast c) = lit≤ tt
one_need (steps.Member a c k) = lit≤ tt
one_need (steps.Construct c d) = lit≤ tt
one_need (steps.Return r) = lit≤ tt

-- an instruction names at most one entry
pub needs_length : (ss : List Step) → length (steps_needs ss) ≤ length ss
needs_length [] = lit≤ tt
needs_length (s ∷ ss) = omega (arith, length-append (step_needs s) (steps_needs ss), one_need s, needs_length ss)
