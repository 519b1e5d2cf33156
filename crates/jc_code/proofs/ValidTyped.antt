-- What typing gives is what a valid client may have, where the scan refuses nothing.
use Rattle.std.proofs.Common.{◌≡◌, ℕ, zero, suc, ◌+◌, ◌-◌, ◌/◌, ◌%◌, Bool, true, false, cond, not, ◌||◌, ◌&&◌, List, [], ◌∷◌, ◌++◌, length, drop, get_or, nat_eq, Option, Some, None, Result, Ok, Err, refl, sym, ap, subst, ◌∙◌}
use Rattle.std.specs.List.{list_any}
use Rattle.std.specs.Prelude.{codes}
use Rattle.std.proofs.lemmas.Bool.{eqb-true}
use Rattle.jc_desc.proofs.Sound.{some_if_is}
use Rattle.jc_desc.specs.Names.{is_init_name, is_clinit_name}
use Rattle.jc_desc.specs.PoolAnswers.{MemberRefOf, some_if, class_in, member_ref_in}
use Rattle.jc_facts.specs.declared.act.Act.{Act}
use Rattle.jc_facts.specs.declared.act.Act.TheVariants as act
use Rattle.jc_facts.specs.declared.class_facts.ClassFacts.{ClassFacts}
use Rattle.jc_facts.specs.declared.client.Item.{Item}
use Rattle.jc_facts.specs.declared.client.Item.TheVariants as item
use Rattle.jc_facts.specs.declared.code_fault.CodeFault.{CodeFault}
use Rattle.jc_facts.specs.declared.code_fault.CodeReason.{CodeReason}
use Rattle.jc_facts.specs.declared.code_fault.CodeReason.TheVariants as reasons
use Rattle.jc_facts.specs.Names.{Bytes, same}
use Rattle.jc_facts.specs.client.Acts.{is_act_on_field}
use Rattle.jc_facts.specs.client.Valid.{is_item_of}
use Rattle.jc_facts.specs.file.Attributes.{CodeOf, is_array_name, ◌|>>◌}
use Rattle.jc_facts.specs.code.Code.{Around, member_at, plain_member, is_own, either, is_interface_ref, holds_tag, operand, used, instruction_at, next_at, scan_at}
use Rattle.jc_facts.specs.code.Lengths.{is_between, instruction_length}
use Rattle.jc_facts.specs.file.Refusals.{◌>>=◌, want}
use Rattle.jc_facts.specs.code.Typing.{Kind, int, long, float, double, null, ref, fresh, unset, empty, takes_two, Frame, same_kind, assign, fit, fit_all, receiver, pop, taken, method_kinds, field_kind, of_number, is_unset, go, load, store, pop_one, pop_two, dup, cast, use_of, get_static, put_static, get_field, put_field, call_static, call, initialized, construct, act_on, Instruction, nothing, pushes, loads_class, loads, stores, pops, pops_two, dups, makes, casts, tests, uses, constructs, run, constant_in, wide_in, plain_in, act_in, special_in, plain_instruction, entry_instruction, takes_entry, decode, is_return, value_fits, result_fits, leave, length_of, step_at, is_nil, typed_at, start_of, typed_code}
use Rattle.jc_code.proofs.Validity.{Good, Suits, GoodOption, own_good, Sound, pick}
use Rattle.jc_facts.proofs.Options.{some_then}
use Rattle.jc_code.proofs.ValidUses.{IsPlain, plain_is, virtual_is, interface_is, special_is, follow, some_good, join_good, good_of}

abbrev Ran : Type 0
Ran = List Item × Frame

abbrev sized : ℕ → List Item → Result (ℕ × List Item) CodeFault
sized len xs = Ok (len, xs)

abbrev read_as : ℕ → Instruction → Option (ℕ × Instruction)
read_as len i = Some (len, i)

abbrev timed : ℕ → Ran → Option (ℕ × List Item × Frame)
timed len x = Some (len, x.0, x.1)

abbrev timed_run : Around → ℕ → Frame → ℕ × Instruction → Option (ℕ × List Item × Frame)
timed_run a pc f i = run a pc i.1 f |>> timed i.0

abbrev typed_rest : Around → Option Kind → ℕ → ℕ → Bytes → ℕ × List Item × Frame → Option (List Item)
typed_rest a due n pc all x = typed_at a due n (pc + x.0) x.2 (drop x.0 all) |>> λ others. Some (x.1 ++ others)

abbrev scan_rest : Around → ℕ → ℕ → ℕ → Bytes → ℕ × List Item → Result (List Item) CodeFault
scan_rest a left n pc all x = scan_at a left n (pc + x.0) (drop x.0 all) >>= λ ys. Ok (x.1 ++ ys)

-- ---- items of one instruction

pub record GoodRan (c : ClassFacts) (o : Option Ran) : Type 0 where
  pub good : (x : Ran) → o ≡ Some x → Good c x.0

none : (c : ClassFacts) → GoodRan c None
none c = record { good = λ x e. absurd cc }

same_ran : (x y : Ran) → Some x ≡ Some y → x ≡ y
same_ran x y e = cc

goes : (c : ClassFacts) (items : List Item) (stack locals : List Kind) → Good c items → GoodRan c (go items stack locals)
goes c items stack locals g = record { good = λ y e. subst (λ (z : Ran). Good c z.0) (same_ran (items, record { stack = stack; locals = locals }) y e) g }

then : {A : Type 0} (c : ClassFacts) (o : Option A) (f : A → Option Ran) → ((x : A) → o ≡ Some x → GoodRan c (f x)) → GoodRan c (o |>> f)
then {A} c None f h = none c
then {A} c (Some x) f h = h x refl

choose : (c : ClassFacts) (b : Bool) (x y : Option Ran) → GoodRan c x → GoodRan c y → GoodRan c (cond b x y)
choose c true x y h k = h
choose c false x y h k = k

cons_good : (c : ClassFacts) (i : Item) (xs : List Item) → is_item_of c i ≡ true → Good c xs → Good c (i ∷ xs)
cons_good c i xs p g = rw (p, g) refl

assign_good : (c : ClassFacts) (s t : Bytes) → Good c (assign s t)
assign_good c s t = by_test (same s t) where
  by_test : (b : Bool) → Good c (cond b [] (item.Assign s t ∷ []))
  by_test true = refl
  by_test false = refl

fit_good : (c : ClassFacts) (k d : Kind) → GoodOption c (fit k d)
unfolding fit
fit_good c (ref s) (ref t) = assign_good c s t
fit_good c null (ref t) = refl
fit_good c k d = some_good c (same_kind k d) [] refl

fit_all_good : (c : ClassFacts) (ks ds : List Kind) → GoodOption c (fit_all ks ds)
unfolding fit_all
fit_all_good c [] [] = refl
fit_all_good c [] (d ∷ ds) = tt
fit_all_good c (k ∷ ks) [] = tt
fit_all_good c (k ∷ ks) (d ∷ ds) = go_on (fit_all_good c ks ds) where
  go_on : GoodOption c (fit_all ks ds) → GoodOption c (fit k d |>> λ xs. fit_all ks ds |>> λ ys. Some (xs ++ ys))
  go_on g = follow c (fit k d) _ (λ xs e. join_good c (fit_all ks ds) xs (good_of c (fit k d) xs (fit_good c k d) e) g)

initialized_good : (c : ClassFacts) (a : Around) (m : MemberRefOf) (k : Kind) (i : Item × Bytes) → Suits c a → initialized a m k ≡ Some i → is_item_of c i.0 ≡ true
unfolding initialized
initialized_good c a m (fresh at t) i s e = by_test (same m.class t) e where
  by_test : (b : Bool) → cond b (Some (item.New t m.descriptor, t)) None ≡ Some i → is_item_of c i.0 ≡ true
  by_test true e = let q : (item.New t m.descriptor, t) ≡ i = (let r : Some (item.New t m.descriptor, t) ≡ Some i = e in cc) in subst (λ (x : Item × Bytes). is_item_of c x.0 ≡ true) q refl
  by_test false e = absurd cc
initialized_good c a m unset i s e = by_test (is_own a m.class) refl e where
  by_test : (b : Bool) → is_own a m.class ≡ b → cond b (Some (item.Init m.class m.descriptor, a.class)) None ≡ Some i → is_item_of c i.0 ≡ true
  by_test true o e = let q : (item.Init m.class m.descriptor, a.class) ≡ i = (let r : Some (item.Init m.class m.descriptor, a.class) ≡ Some i = e in cc) in subst (λ (x : Item × Bytes). is_item_of c x.0 ≡ true) q (own_good c a m.class m.descriptor s o)
  by_test false o e = absurd cc
initialized_good c a m _ i s e = absurd cc

-- an act may be done on this member
abbrev pub Callable : Act → MemberRefOf → Type 0
Callable what m = (is_act_on_field what || not (is_init_name m.name || is_clinit_name m.name)) ≡ true

abbrev pub IsCallable : Instruction → Type 0
IsCallable (uses what m) = Callable what m
IsCallable _ = Unit {0}

module _ (c : ClassFacts) (a : Around) (s : Suits c a) (f : Frame) where
  static_good : (what : Act) (m : MemberRefOf) → Callable what m → GoodRan c (call_static a what m f)
  unfolding call_static
  static_good what m h = then c (method_kinds m.descriptor) _ (λ d e. then c (taken (length d.params) f.stack) _ (λ args e. then c (fit_all args.0 d.params) _ (λ more e. goes c (use_of a what m None ∷ more) _ _ (cons_good c (use_of a what m None) more h (good_of c (fit_all args.0 d.params) more (fit_all_good c args.0 d.params) e)))))

  call_good : (what : Act) (m : MemberRefOf) → Callable what m → GoodRan c (call a what m f)
  unfolding call
  call_good what m h = then c (method_kinds m.descriptor) _ (λ d e. then c (taken (length d.params) f.stack) _ (λ args e. then c (pop args.1) _ (λ top e. then c (receiver top.0) _ (λ r e. then c (fit_all args.0 d.params) _ (λ more e. goes c (use_of a what m r ∷ more) _ _ (cons_good c (use_of a what m r) more h (good_of c (fit_all args.0 d.params) more (fit_all_good c args.0 d.params) e)))))))

  get_static_good : (m : MemberRefOf) → GoodRan c (get_static a m f)
  unfolding get_static
  get_static_good m = then c (field_kind m.descriptor) _ (λ k e. goes c (use_of a act.GetStatic m None ∷ []) _ _ refl)

  put_static_good : (m : MemberRefOf) → GoodRan c (put_static a m f)
  unfolding put_static
  put_static_good m = then c (field_kind m.descriptor) _ (λ k e. then c (pop f.stack) _ (λ value e. then c (fit value.0 k) _ (λ more e. goes c (use_of a act.PutStatic m None ∷ more) _ _ (cons_good c (use_of a act.PutStatic m None) more refl (good_of c (fit value.0 k) more (fit_good c value.0 k) e)))))

  get_field_good : (m : MemberRefOf) → GoodRan c (get_field a m f)
  unfolding get_field
  get_field_good m = then c (field_kind m.descriptor) _ (λ k e. then c (pop f.stack) _ (λ top e. then c (receiver top.0) _ (λ r e. goes c (use_of a act.GetField m r ∷ []) _ _ refl)))

  put_field_good : (m : MemberRefOf) → GoodRan c (put_field a m f)
  unfolding put_field
  put_field_good m = then c (field_kind m.descriptor) _ (λ k e. then c (pop f.stack) _ (λ value e. then c (pop value.1) _ (λ top e. then c (receiver top.0) _ (λ r e. then c (fit value.0 k) _ (λ more e. goes c (use_of a act.PutField m r ∷ more) _ _ (cons_good c (use_of a act.PutField m r) more refl (good_of c (fit value.0 k) more (fit_good c value.0 k) e)))))))

  act_good : (what : Act) (m : MemberRefOf) → Callable what m → GoodRan c (act_on a what m f)
  unfolding act_on
  act_good act.GetStatic m h = get_static_good m
  act_good act.PutStatic m h = put_static_good m
  act_good act.GetField m h = get_field_good m
  act_good act.PutField m h = put_field_good m
  act_good act.InvokeStatic m h = static_good act.InvokeStatic m h
  act_good act.InvokeStaticInterface m h = static_good act.InvokeStaticInterface m h
  act_good what m h = call_good what m h

  construct_good : (m : MemberRefOf) → GoodRan c (construct a m f)
  unfolding construct
  construct_good m = then c (method_kinds m.descriptor) _ (λ d e. then c (taken (length d.params) f.stack) _ (λ args e. then c (pop args.1) _ (λ top e. then c (initialized a m top.0) _ (λ i b. then c (fit_all args.0 d.params) _ (λ more e. goes c (i.0 ∷ more) _ _ (cons_good c i.0 more (initialized_good c a m top.0 i s b) (good_of c (fit_all args.0 d.params) more (fit_all_good c args.0 d.params) e)))))))

  load_good : (number place : ℕ) → GoodRan c (load number place f)
  unfolding load
  load_good number place = choose c (of_number number (get_or f.locals place empty)) _ _ (goes c [] _ _ refl) (none c)

  store_good : (number place : ℕ) → GoodRan c (store number place f)
  unfolding store
  store_good number place = then c (pop f.stack) _ (λ top e. choose c (of_number number top.0 && not (is_unset top.0)) _ _ (goes c [] _ _ refl) (none c))

  pop_good : GoodRan c (pop_one f)
  unfolding pop_one
  pop_good = then c (pop f.stack) _ (λ top e. choose c (takes_two top.0) _ _ (none c) (goes c [] _ _ refl))

  dup_good : GoodRan c (dup f)
  unfolding dup
  dup_good = then c (pop f.stack) _ (λ top e. choose c (takes_two top.0) _ _ (none c) (goes c [] _ _ refl))

  two_good : GoodRan c (pop_two f)
  unfolding pop_two
  two_good = then c (pop f.stack) _ (λ top e. choose c (takes_two top.0) _ _ (goes c [] _ _ refl) (then c (pop top.1) _ (λ next e. choose c (takes_two next.0) _ _ (none c) (goes c [] _ _ refl))))

  cast_good : (name : Bytes) (k : Kind) → GoodRan c (cast name k f)
  unfolding cast
  cast_good name k = then c (pop f.stack) _ (λ top e. then c (receiver top.0) _ (λ r e. goes c (item.Class name ∷ []) _ _ refl))

  run_good : (pc : ℕ) (i : Instruction) → IsCallable i → GoodRan c (run a pc i f)
  unfolding run
  run_good pc nothing h = goes c [] _ _ refl
  run_good pc (pushes k) h = goes c [] _ _ refl
  run_good pc (loads_class name) h = goes c (item.Class name ∷ []) _ _ refl
  run_good pc (loads number place) h = load_good number place
  run_good pc (stores number place) h = store_good number place
  run_good pc pops h = pop_good
  run_good pc pops_two h = two_good
  run_good pc dups h = dup_good
  run_good pc (makes name) h = goes c (item.Class name ∷ []) _ _ refl
  run_good pc (casts name) h = cast_good name _
  run_good pc (tests name) h = cast_good name _
  run_good pc (uses what m) h = act_good what m h
  run_good pc (constructs m) h = construct_good m

-- ---- instructions of entries that the scan lets pass

pub record GoodIns (o : Option Instruction) : Type 0 where
  pub callable : (i : Instruction) → o ≡ Some i → IsCallable i

no_ins : GoodIns None
no_ins = record { callable = λ i e. absurd cc }

same_ins : (i j : Instruction) → Some i ≡ Some j → i ≡ j
same_ins i j e = cc

some_ins : (i : Instruction) → IsCallable i → GoodIns (Some i)
some_ins i h = record { callable = λ j e. subst IsCallable (same_ins i j e) h }

pick_ins : (b : Bool) (x y : Option Instruction) → (b ≡ true → GoodIns x) → GoodIns y → GoodIns (cond b x y)
pick_ins true x y h k = h refl
pick_ins false x y h k = k

then_ins : {A : Type 0} (o : Option A) (f : A → Option Instruction) → ((x : A) → o ≡ Some x → GoodIns (f x)) → GoodIns (o |>> f)
then_ins {A} None f h = no_ins
then_ins {A} (Some x) f h = h x refl

plain_ins : (op near : ℕ) → GoodIns (plain_instruction op near)
unfolding plain_instruction
plain_ins op near =
    pick_ins (nat_eq op 0) _ _ (λ e. some_ins nothing tt)
    (pick_ins (nat_eq op 1) _ _ (λ e. some_ins (pushes null) tt)
    (pick_ins (is_between 2 8 op || nat_eq op 16 || nat_eq op 17) _ _ (λ e. some_ins (pushes int) tt)
    (pick_ins (nat_eq op 9 || nat_eq op 10) _ _ (λ e. some_ins (pushes long) tt)
    (pick_ins (is_between 11 13 op) _ _ (λ e. some_ins (pushes float) tt)
    (pick_ins (nat_eq op 14 || nat_eq op 15) _ _ (λ e. some_ins (pushes double) tt)
    (pick_ins (is_between 21 25 op) _ _ (λ e. some_ins (loads (op - 21) near) tt)
    (pick_ins (is_between 26 45 op) _ _ (λ e. some_ins (loads ((op - 26) / 4) ((op - 26) % 4)) tt)
    (pick_ins (is_between 54 58 op) _ _ (λ e. some_ins (stores (op - 54) near) tt)
    (pick_ins (is_between 59 78 op) _ _ (λ e. some_ins (stores ((op - 59) / 4) ((op - 59) % 4)) tt)
    (pick_ins (nat_eq op 87) _ _ (λ e. some_ins pops tt)
    (pick_ins (nat_eq op 88) _ _ (λ e. some_ins pops_two tt)
    (pick_ins (nat_eq op 89) _ _ (λ e. some_ins dups tt) no_ins))))))))))))

callable_plain : (what : Act) (m : MemberRefOf) → IsPlain m → Callable what m
callable_plain what m h = by_act (is_act_on_field what) where
  by_act : (b : Bool) → (b || not (is_init_name m.name || is_clinit_name m.name)) ≡ true
  by_act true = refl
  by_act false = rw (h.init, h.clinit) refl

in_pool : (a : Around) (i : ℕ) (m : MemberRefOf) → plain_in a i ≡ Some m → member_ref_in a.pool i ≡ Some m
in_pool a i m e =
    let b = some_then (member_ref_in a.pool i) (λ (x : MemberRefOf). some_if (not (is_array_name x.class)) x) m e in
    let p = some_if_is (not (is_array_name b.0.class)) b.0 m b.2 in
    b.1 ∙ ap (λ (x : MemberRefOf). Some x) p.1

one_member : (x y : MemberRefOf) (o : Option MemberRefOf) → o ≡ Some x → o ≡ Some y → x ≡ y
one_member x y o e d = let q : Some x ≡ Some y = sym e ∙ d in cc

virtual_plain : (a : Around) (i : ℕ) (found : List Item) (m : MemberRefOf) → Sound a.pool → used a 182 i ≡ Some found → member_ref_in a.pool i ≡ Some m → IsPlain m
unfolding used
virtual_plain a i found m s u r =
    let b = some_then (plain_member a.pool 10 10 i) _ found u in
    let k = virtual_is a.pool i b.0 s b.1 in
    subst IsPlain (one_member b.0 m (member_ref_in a.pool i) k.0 r) k.1

static_plain : (a : Around) (i : ℕ) (found : List Item) (m : MemberRefOf) → Sound a.pool → used a 184 i ≡ Some found → member_ref_in a.pool i ≡ Some m → IsPlain m
unfolding used
static_plain a i found m s u r =
    let b = some_then (plain_member a.pool 10 11 i) _ found u in
    let k = plain_is a.pool i b.0 s b.1 in
    subst IsPlain (one_member b.0 m (member_ref_in a.pool i) k.0 r) k.1

interface_plain : (a : Around) (i : ℕ) (found : List Item) (m : MemberRefOf) → Sound a.pool → used a 185 i ≡ Some found → member_ref_in a.pool i ≡ Some m → IsPlain m
unfolding used
interface_plain a i found m s u r =
    let b = some_then (member_at a.pool 11 11 i) _ found u in
    let k = interface_is a.pool i b.0 s b.1 in
    subst IsPlain (one_member b.0 m (member_ref_in a.pool i) k.0 r) k.1

special_plain : (a : Around) (i : ℕ) (found : List Item) (m : MemberRefOf) → Sound a.pool → used a 183 i ≡ Some found → member_ref_in a.pool i ≡ Some m → is_clinit_name m.name ≡ false
unfolding used
special_plain a i found m s u r =
    let b = some_then (member_at a.pool 10 11 i) _ found u in
    let k = special_is a.pool i b.0 s b.1 in
    subst (λ (x : MemberRefOf). is_clinit_name x.name ≡ false) (one_member b.0 m (member_ref_in a.pool i) k.0 r) k.1

field_ins : (a : Around) (what : Act) (i : ℕ) → is_act_on_field what ≡ true → GoodIns (act_in a what what i)
field_ins a what i h = then_ins (plain_in a i) _ (λ m e. by_tag m (is_interface_ref m)) where
  by_tag : (m : MemberRefOf) (b : Bool) → GoodIns (Some (uses (cond b what what) m))
  by_tag m true = some_ins (uses what m) (rw h refl)
  by_tag m false = some_ins (uses what m) (rw h refl)

act_ins : (a : Around) (what other : Act) (i : ℕ) → ((m : MemberRefOf) → member_ref_in a.pool i ≡ Some m → IsPlain m) → GoodIns (act_in a what other i)
act_ins a what other i h = then_ins (plain_in a i) _ (λ m e. some_ins (uses (either m what other) m) (callable_plain (either m what other) m (h m (in_pool a i m e))))

special_ins : (a : Around) (i : ℕ) → ((m : MemberRefOf) → member_ref_in a.pool i ≡ Some m → is_clinit_name m.name ≡ false) → GoodIns (special_in a i)
special_ins a i h = then_ins (plain_in a i) _ (λ m e. by_name m (is_init_name m.name) refl (h m (in_pool a i m e))) where
  by_name : (m : MemberRefOf) (b : Bool) → is_init_name m.name ≡ b → is_clinit_name m.name ≡ false → GoodIns (Some (cond b (constructs m) (uses (either m act.InvokeSpecial act.InvokeSpecialInterface) m)))
  by_name m true e k = some_ins (constructs m) tt
  by_name m false e k = some_ins (uses (either m act.InvokeSpecial act.InvokeSpecialInterface) m) (callable_plain (either m act.InvokeSpecial act.InvokeSpecialInterface) m (record { init = e; clinit = k }))

constant_ins : (a : Around) (i : ℕ) → GoodIns (constant_in a.pool i)
unfolding constant_in
constant_ins a i =
    pick_ins (holds_tag a.pool i 3) _ _ (λ e. some_ins (pushes int) tt)
    (pick_ins (holds_tag a.pool i 4) _ _ (λ e. some_ins (pushes float) tt)
    (pick_ins (holds_tag a.pool i 8) _ _ (λ e. some_ins (pushes (ref (codes "java/lang/String"))) tt)
    (then_ins (class_in a.pool i) _ (λ name e. some_ins (loads_class name) tt))))

wide_ins : (a : Around) (i : ℕ) → GoodIns (wide_in a.pool i)
wide_ins a i = pick_ins (holds_tag a.pool i 5) _ _ (λ e. some_ins (pushes long) tt) (pick_ins (holds_tag a.pool i 6) _ _ (λ e. some_ins (pushes double) tt) no_ins)

at_op : (a : Around) (op n i : ℕ) (found : List Item) → nat_eq op n ≡ true → used a op i ≡ Some found → used a n i ≡ Some found
at_op a op n i found e u = subst (λ (k : ℕ). used a k i ≡ Some found) (eqb-true op n e) u

entry_ins : (a : Around) (op i : ℕ) (found : List Item) → Sound a.pool → used a op i ≡ Some found → GoodIns (entry_instruction a op i)
unfolding entry_instruction
entry_ins a op i found s u =
    pick_ins (nat_eq op 18 || nat_eq op 19) _ _ (λ e. constant_ins a i)
    (pick_ins (nat_eq op 20) _ _ (λ e. wide_ins a i)
    (pick_ins (nat_eq op 178) _ _ (λ e. field_ins a act.GetStatic i refl)
    (pick_ins (nat_eq op 179) _ _ (λ e. field_ins a act.PutStatic i refl)
    (pick_ins (nat_eq op 180) _ _ (λ e. field_ins a act.GetField i refl)
    (pick_ins (nat_eq op 181) _ _ (λ e. field_ins a act.PutField i refl)
    (pick_ins (nat_eq op 182) _ _ (λ e. act_ins a act.InvokeVirtual act.InvokeVirtual i (λ m r. virtual_plain a i found m s (at_op a op 182 i found e u) r))
    (pick_ins (nat_eq op 183) _ _ (λ e. special_ins a i (λ m r. special_plain a i found m s (at_op a op 183 i found e u) r))
    (pick_ins (nat_eq op 184) _ _ (λ e. act_ins a act.InvokeStatic act.InvokeStaticInterface i (λ m r. static_plain a i found m s (at_op a op 184 i found e u) r))
    (pick_ins (nat_eq op 185) _ _ (λ e. act_ins a act.InvokeInterface act.InvokeInterface i (λ m r. interface_plain a i found m s (at_op a op 185 i found e u) r))
    (pick_ins (nat_eq op 187) _ _ (λ e. then_ins (class_in a.pool i) _ (λ name d. some_ins (makes name) tt))
    (pick_ins (nat_eq op 192) _ _ (λ e. then_ins (class_in a.pool i) _ (λ name d. some_ins (casts name) tt))
    (pick_ins (nat_eq op 193) _ _ (λ e. then_ins (class_in a.pool i) _ (λ name d. some_ins (tests name) tt)) no_ins))))))))))))

decoded_good : (a : Around) (op near i : ℕ) (found : List Item) → Sound a.pool → used a op i ≡ Some found → GoodIns (decode a op near i)
unfolding decode
decoded_good a op near i found s u = pick_ins (takes_entry op) _ _ (λ e. entry_ins a op i found s u) (plain_ins op near)

-- ---- the walk, beside the scan

record IsScanned (a : Around) (left n pc len op : ℕ) (rest : Bytes) : Type 0 where
  found : List Item
  used_is : used a op (operand op rest) ≡ Some found
  others : List Item
  next : scan_at a left n (pc + len) (drop len (op ∷ rest)) ≡ Ok others

scan_parts : (a : Around) (left n pc len op : ℕ) (rest : Bytes) (found : List Item) → instruction_length pc op rest ≡ Ok len → scan_at a left (suc n) pc (op ∷ rest) ≡ Ok found → IsScanned a left n pc len op rest
unfolding scan_at next_at instruction_at
scan_parts a left n pc len op rest found e h = by_used (used a op (operand op rest)) refl (rw e at h) where
  by_next : (xs : List Item) → used a op (operand op rest) ≡ Some xs → (r : Result (List Item) CodeFault) → scan_at a left n (pc + len) (drop len (op ∷ rest)) ≡ r → (r >>= λ ys. Ok (xs ++ ys)) ≡ Ok found → IsScanned a left n pc len op rest
  by_next xs d (Err x) t k = absurd cc
  by_next xs d (Ok ys) t k = record { found = xs; used_is = d; others = ys; next = t }

  by_used : (o : Option (List Item)) → used a op (operand op rest) ≡ o → ((want o (left - pc) reasons.BadEntry >>= sized len) >>= scan_rest a left n pc (op ∷ rest)) ≡ Ok found → IsScanned a left n pc len op rest
  by_used None d k = absurd cc
  by_used (Some xs) d k = by_next xs d (scan_at a left n (pc + len) (drop len (op ∷ rest))) refl k

value_good : (c : ClassFacts) (op : ℕ) (stack : List Kind) (due : Kind) → GoodOption c (value_fits op stack due)
unfolding value_fits
value_good c op stack due = pick c (nat_eq op 177) _ _ tt (follow c (pop stack) _ (λ top e. pick c (of_number (op - 172) top.0) _ _ (fit_good c top.0 due) tt))

leave_good : (c : ClassFacts) (a : Around) (op : ℕ) (f : Frame) (due : Option Kind) → GoodOption c (leave a op f due)
unfolding leave
leave_good c a op f due = pick c (is_init_name a.name && (list_any is_unset f.stack || list_any is_unset f.locals)) _ _ tt (result due) where
  result : (d : Option Kind) → GoodOption c (result_fits op f.stack d)
  result None = some_good c (nat_eq op 177) [] refl
  result (Some k) = value_good c op f.stack k

abbrev Walks : ClassFacts → Around → Option Kind → ℕ → ℕ → Type 0
Walks c a due left n = (pc : ℕ) (f : Frame) (bytes : Bytes) (found : List Item) → scan_at a left n pc bytes ≡ Ok found → GoodOption c (typed_at a due n pc f bytes)

step_good : (c : ClassFacts) (a : Around) (due : Option Kind) (left n pc op : ℕ) (f : Frame) (rest : Bytes) (found : List Item) → Suits c a → Sound a.pool → Walks c a due left n → scan_at a left (suc n) pc (op ∷ rest) ≡ Ok found
    → GoodOption c (step_at a pc f op rest |>> typed_rest a due n pc (op ∷ rest))
unfolding step_at
step_good c a due left n pc op f rest found u s walks h = by_len (instruction_length pc op rest) refl where
  by_run : (len : ℕ) (i : Instruction) → IsCallable i → IsScanned a left n pc len op rest → (r : Option Ran) → run a pc i f ≡ r
      → GoodOption c ((r |>> timed len) |>> typed_rest a due n pc (op ∷ rest))
  by_run len i k w None e = tt
  by_run len i k w (Some x) e = join_good c (typed_at a due n (pc + len) x.1 (drop len (op ∷ rest))) x.0 ((run_good c a u f pc i k).good x e) (walks (pc + len) x.1 (drop len (op ∷ rest)) w.others w.next)

  by_decoded : (len : ℕ) → IsScanned a left n pc len op rest → (o : Option Instruction) → decode a op (get_or rest 0 0) (operand op rest) ≡ o
      → GoodOption c (((o |>> read_as len) |>> timed_run a pc f) |>> typed_rest a due n pc (op ∷ rest))
  by_decoded len w None d = tt
  by_decoded len w (Some i) d = by_run len i ((decoded_good a op (get_or rest 0 0) (operand op rest) w.found s w.used_is).callable i d) w (run a pc i f) refl

  by_len : (l : Result ℕ CodeReason) → instruction_length pc op rest ≡ l
      → GoodOption c (((length_of l |>> λ len. decode a op (get_or rest 0 0) (operand op rest) |>> read_as len) |>> timed_run a pc f) |>> typed_rest a due n pc (op ∷ rest))
  by_len (Err r) e = tt
  by_len (Ok len) e = by_decoded len (scan_parts a left n pc len op rest found e h) (decode a op (get_or rest 0 0) (operand op rest)) refl

pub typed_good : (c : ClassFacts) (a : Around) (due : Option Kind) (left n : ℕ) → Suits c a → Sound a.pool → Walks c a due left n
unfolding typed_at
typed_good c a due left zero u s pc f bytes found h = tt
typed_good c a due left (suc n) u s pc f [] found h = tt
typed_good c a due left (suc n) u s pc f (op ∷ rest) found h =
    pick c (is_return op) _ _ (pick c (is_nil rest) _ _ (leave_good c a op f due) tt) (step_good c a due left n pc op f rest found u s (typed_good c a due left n u s) h)

pub code_good : (c : ClassFacts) (a : Around) (left : ℕ) (code : CodeOf) (found : List Item) → Suits c a → Sound a.pool → scan_at a left (length code.bytes) 0 code.bytes ≡ Ok found → GoodOption c (typed_code a code)
unfolding typed_code
code_good c a left code found u s h = pick c (is_nil code.catches) _ _ (follow c (method_kinds a.descriptor) _ (λ m e. typed_good c a m.result left (length code.bytes) u s 0 (start_of a m.params) code.bytes found h)) tt
