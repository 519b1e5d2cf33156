-- The instructions that are written keep the number of locals, and load from them alone.
use Rattle.std.proofs.Common.{◌≡◌, ℕ, zero, suc, ◌<◌, Bool, true, false, cond, List, [], ◌∷◌, length, get_or, Some, None, refl, subst, arith}
use Rattle.std.proofs.lemmas.List.{length-map}
use Rattle.jc_desc.specs.PoolAnswers.{MemberRefOf}
use Rattle.jc_facts.specs.declared.act.Act.{Act}
use Rattle.jc_facts.specs.declared.act.Act.TheVariants as acts
use Rattle.jc_facts.specs.declared.client.Item.{Item}
use Rattle.jc_facts.specs.declared.blueprint.Step.{Step}
use Rattle.jc_facts.specs.declared.blueprint.Step.TheVariants as steps
use Rattle.jc_facts.specs.file.Attributes.{is_array_name}
use Rattle.jc_facts.specs.code.Code.{Around}
use Rattle.jc_facts.specs.code.Typing.{Kind, empty, takes_two, fit, fit_all, receiver, pop, taken, method_kinds, field_kind, go, initialized, Frame, of_number, load, push, pop_one, pop_two, dup, cast, get_static, put_static, get_field, put_field, call_static, call, construct, act_on, all_made, made, Instruction, nothing, pushes, loads_class, loads, stores, pops, pops_two, dups, makes, casts, tests, uses, constructs, run}
use Rattle.jc_facts.specs.written.TypedSteps.{instruction_of}
use Rattle.jc_write.proofs.CodeTyped.{Ran}
use Rattle.jc_write.proofs.EachRan.{Each, nowhere, there, then, either}

-- there are n locals behind an instruction
abbrev Keeps : ℕ → Ran → Type 0
Keeps n one = length one.1.locals ≡ n

abbrev pub is_store : Instruction → Bool
is_store (stores number place) = true
is_store _ = false

module _ (a : Around) (f : Frame) where
  abbrev K : Ran → Type 0
  K = Keeps (length f.locals)

  stays : (items : List Item) (stack : List Kind) → Each K (go items stack f.locals)
  stays items stack = there K (items, record { stack = stack; locals = f.locals }) refl

  call_keeps : (what : Act) (m : MemberRefOf) → Each K (call a what m f)
  unfolding call
  call_keeps what m = then K (method_kinds m.descriptor) _ (λ d e. then K (taken (length d.params) f.stack) _ (λ args e. then K (pop args.1) _ (λ top e. then K (receiver top.0) _ (λ r e. then K (fit_all args.0 d.params) _ (λ more e. stays _ _)))))

  static_keeps : (what : Act) (m : MemberRefOf) → Each K (call_static a what m f)
  unfolding call_static
  static_keeps what m = then K (method_kinds m.descriptor) _ (λ d e. then K (taken (length d.params) f.stack) _ (λ args e. then K (fit_all args.0 d.params) _ (λ more e. stays _ _)))

  get_static_keeps : (m : MemberRefOf) → Each K (get_static a m f)
  unfolding get_static
  get_static_keeps m = then K (field_kind m.descriptor) _ (λ k e. stays _ _)

  put_static_keeps : (m : MemberRefOf) → Each K (put_static a m f)
  unfolding put_static
  put_static_keeps m = then K (field_kind m.descriptor) _ (λ k e. then K (pop f.stack) _ (λ value e. then K (fit value.0 k) _ (λ more e. stays _ _)))

  get_field_keeps : (m : MemberRefOf) → Each K (get_field a m f)
  unfolding get_field
  get_field_keeps m = then K (field_kind m.descriptor) _ (λ k e. then K (pop f.stack) _ (λ top e. then K (receiver top.0) _ (λ r e. stays _ _)))

  put_field_keeps : (m : MemberRefOf) → Each K (put_field a m f)
  unfolding put_field
  put_field_keeps m = then K (field_kind m.descriptor) _ (λ k e. then K (pop f.stack) _ (λ value e. then K (pop value.1) _ (λ top e. then K (receiver top.0) _ (λ r e. then K (fit value.0 k) _ (λ more e. stays _ _)))))

  act_keeps : (what : Act) (m : MemberRefOf) → Each K (act_on a what m f)
  unfolding act_on
  act_keeps acts.GetStatic m = get_static_keeps m
  act_keeps acts.PutStatic m = put_static_keeps m
  act_keeps acts.GetField m = get_field_keeps m
  act_keeps acts.PutField m = put_field_keeps m
  act_keeps acts.InvokeStatic m = static_keeps acts.InvokeStatic m
  act_keeps acts.InvokeStaticInterface m = static_keeps acts.InvokeStaticInterface m
  act_keeps what m = call_keeps what m

  construct_keeps : (m : MemberRefOf) → Each K (construct a m f)
  unfolding construct all_made
  construct_keeps m = then K (method_kinds m.descriptor) _ (λ d e. then K (taken (length d.params) f.stack) _ (λ args e. then K (pop args.1) _ (λ top e. then K (initialized a m top.0) _ (λ i e. then K (fit_all args.0 d.params) _ (λ more e. there K _ (length-map f.locals (made top.0 i.1)))))))

  pop_keeps : Each K (pop_one f)
  unfolding pop_one
  pop_keeps = then K (pop f.stack) _ (λ top e. either K (takes_two top.0) _ _ (λ t. nowhere K) (λ t. stays _ _))

  dup_keeps : Each K (dup f)
  unfolding dup
  dup_keeps = then K (pop f.stack) _ (λ top e. either K (takes_two top.0) _ _ (λ t. nowhere K) (λ t. stays _ _))

  two_keeps : Each K (pop_two f)
  unfolding pop_two
  two_keeps = then K (pop f.stack) _ (λ top e. either K (takes_two top.0) _ _ (λ t. stays _ _) (λ t. then K (pop top.1) _ (λ next e. either K (takes_two next.0) _ _ (λ t. nowhere K) (λ t. stays _ _))))

  cast_keeps : (name : List ℕ) (k : Kind) → Each K (cast name k f)
  unfolding cast
  cast_keeps name k = then K (pop f.stack) _ (λ top e. then K (receiver top.0) _ (λ r e. stays _ _))

  load_keeps : (number place : ℕ) → Each K (load number place f)
  unfolding load
  load_keeps number place = either K (of_number number (get_or f.locals place empty)) _ _ (λ t. stays _ _) (λ t. nowhere K)

pub run_keeps : (a : Around) (pc : ℕ) (i : Instruction) (f : Frame) → is_store i ≡ false → Each (Keeps (length f.locals)) (run a pc i f)
unfolding run
run_keeps a pc nothing f h = stays a f _ _
run_keeps a pc (pushes k) f h = stays a f _ _
run_keeps a pc (loads_class name) f h = stays a f _ _
run_keeps a pc (loads number place) f h = load_keeps a f number place
run_keeps a pc (stores number place) f h = absurd cc
run_keeps a pc pops f h = pop_keeps a f
run_keeps a pc pops_two f h = two_keeps a f
run_keeps a pc dups f h = dup_keeps a f
run_keeps a pc (makes name) f h = stays a f _ _
run_keeps a pc (casts name) f h = cast_keeps a f name _
run_keeps a pc (tests name) f h = cast_keeps a f name _
run_keeps a pc (uses what m) f h = act_keeps a f what m
run_keeps a pc (constructs m) f h = construct_keeps a f m

-- ---- of steps

plain_no_store : (b : Bool) (i j : Instruction) → is_store i ≡ false → cond b None (Some i) ≡ Some j → is_store j ≡ false
plain_no_store true i j h e = absurd cc
plain_no_store false i j h e = let q : i ≡ j = (let r : Some i ≡ Some j = e in cc) in subst (λ (x : Instruction). is_store x ≡ false) q h

pub no_store : (s : Step) (i : Instruction) → instruction_of s ≡ Some i → is_store i ≡ false
no_store steps.Null i e = plain_no_store false (pushes _) i refl e
no_store (steps.Zero p) i e = plain_no_store false (pushes _) i refl e
no_store (steps.Load s n) i e = plain_no_store false (loads _ n) i refl e
no_store (steps.New c) i e = plain_no_store false (makes c) i refl e
no_store steps.Dup i e = plain_no_store false dups i refl e
no_store steps.Pop i e = plain_no_store false pops i refl e
no_store steps.Pop2 i e = plain_no_store false pops_two i refl e
no_store (steps.Cast c) i e = plain_no_store false (casts c) i refl e
no_store (steps.Member w c k) i e = plain_no_store (is_array_name c) (uses w _) i refl e
no_store (steps.Construct c d) i e = plain_no_store (is_array_name c) (constructs _) i refl e
no_store (steps.Return r) i e = absurd cc

pub ran_keeps : (a : Around) (pc : ℕ) (i : Instruction) (f : Frame) (one : Ran) → is_store i ≡ false → run a pc i f ≡ Some one → length one.1.locals ≡ length f.locals
ran_keeps a pc i f one h e = (run_keeps a pc i f h).holds one e

-- ---- loads

pub has_place : (n : ℕ) (locals : List Kind) (i : ℕ) → of_number n (get_or locals i empty) ≡ true → i < length locals
has_place n [] i h = absurd cc
has_place n (k ∷ ks) zero h = omega arith
has_place n (k ∷ ks) (suc i) h = let r = has_place n ks i h in omega (arith, r)

pub loaded_place : (a : Around) (pc n i : ℕ) (f : Frame) (one : Ran) → run a pc (loads n i) f ≡ Some one → i < length f.locals
unfolding run load
loaded_place a pc n i f one e = by_test (of_number n (get_or f.locals i empty)) refl e where
  by_test : (b : Bool) → of_number n (get_or f.locals i empty) ≡ b → cond b (push f (get_or f.locals i empty)) None ≡ Some one → i < length f.locals
  by_test true h e = has_place n f.locals i h
  by_test false h e = absurd cc
