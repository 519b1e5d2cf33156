-- The places on the stack behind an instruction that is written, counted by descriptors, are those of its kinds.
use Rattle.std.proofs.Common.{◌≡◌, ℕ, suc, ◌+◌, ◌-◌, ◌*◌, ◌≤◌, Bool, true, false, cond, List, [], ◌∷◌, ◌++◌, length, map, take, drop, get_or, Option, Some, None, refl, sym, ap, subst, ◌∙◌, arith, nat_eq, nat_lt, min}
use Rattle.std.specs.Option.{option_map}
use Rattle.std.proofs.lemmas.List.{length-append, take-append-drop}
use Rattle.jc_desc.specs.PoolAnswers.{MemberRefOf}
use Rattle.jc_desc.specs.Types.{Basic, TypeOf, Method, slots_of_basic, slots_of_type, slots_of, type_text, basic_text, brackets, types_text, result_text, byte, char, double as double_type, float as float_type, int as int_type, long as long_type, short, boolean, class}
use Rattle.jc_desc.specs.Slots.{slots_of_result, slots_returned, slots_of_field}
use Rattle.jc_desc.specs.Reading.{method_of, field_of, slots_of_method}
use Rattle.jc_desc.proofs.Methods.{method_is}
use Rattle.jc_facts.specs.declared.act.Act.{Act}
use Rattle.jc_facts.specs.declared.act.Act.TheVariants as acts
use Rattle.jc_facts.specs.declared.client.Item.{Item}
use Rattle.jc_facts.specs.declared.blueprint.Primitive.TheVariants as prims
use Rattle.jc_facts.specs.declared.blueprint.Slot.{Slot}
use Rattle.jc_facts.specs.declared.blueprint.Slot.TheVariants as kinds
use Rattle.jc_facts.specs.declared.blueprint.Step.{Step}
use Rattle.jc_facts.specs.declared.blueprint.Step.TheVariants as steps
use Rattle.jc_facts.specs.file.Attributes.{is_array_name, ◌|>>◌}
use Rattle.jc_facts.specs.Names.{Bytes}
use Rattle.jc_facts.specs.code.Code.{Around}
use Rattle.jc_facts.specs.written.Bodies.{number_of_kind, places_of_kind, slots_or_none, places_after_static, places_after_call, places_after_act, places_after_step}
use Rattle.jc_facts.specs.code.Typing.{Kind, int, long, float, double, null, ref, fresh, unset, empty, takes_two, Frame, kind_of, kinds_of, Kinds, places, places_of, fit, fit_all, receiver, popped, pop, taken, method_kinds, field_kind, of_number, go, load, pop_one, pop_two, dup, cast, get_static, put_static, get_field, put_field, call_static, call, with_result, initialized, construct, act_on, is_same_instance, made, all_made, Instruction, run}
use Rattle.jc_facts.specs.written.TypedSteps.{instruction_of}
use Rattle.jc_facts.specs.written.TypedItems.{stack_places}
use Rattle.jc_facts.proofs.Options.{some_then}
use Rattle.jc_write.proofs.CodeTyped.{Ran}
use Rattle.jc_write.proofs.EachRan.{Each, nowhere, there, then, either}
use Rattle.jc_write.proofs.StartLocals.{kind_places as type_places, params_places}

-- ---- sizes

abbrev pub size : List Kind → ℕ
size ks = length (places_of ks)

abbrev pub wide : Kind → ℕ
wide k = length (places k)

pub size_append : (xs ys : List Kind) → size (xs ++ ys) ≡ size xs + size ys
size_append [] ys = omega arith
size_append (x ∷ xs) ys =
    let a = length-append (places x) (places_of (xs ++ ys)) in
    let b = length-append (places x) (places_of xs) in
    let c = size_append xs ys in
    omega (arith, a, b, c)

pub size_one : (xs : List Kind) (k : Kind) → size (xs ++ k ∷ []) ≡ size xs + wide k
size_one xs k = let a = size_append xs (k ∷ []) in let b = length-append (places k) [] in omega (arith, a, b)

two_wide : (k : Kind) → takes_two k ≡ true → wide k ≡ 2
two_wide k e = rw e refl

one_wide : (k : Kind) → takes_two k ≡ false → wide k ≡ 1
one_wide k e = rw e refl

-- ---- what is popped

never_none : (k : Kind) (o : Option (Kind × List Kind)) → popped k o ≡ None → ⊥
never_none k None e = absurd cc
never_none k (Some x) e = absurd cc

all_popped : (ks : List Kind) → pop ks ≡ None → ks ≡ []
unfolding pop
all_popped [] e = refl
all_popped (k ∷ ks) e = absurd (never_none k (pop ks) e)

pop_is : (ks : List Kind) (x : Kind × List Kind) → pop ks ≡ Some x → ks ≡ x.1 ++ x.0 ∷ []
unfolding pop
pop_is [] x e = absurd cc
pop_is (k ∷ ks) x e = by_rest (pop ks) refl (pop_is ks) e where
  by_rest : (o : Option (Kind × List Kind)) → pop ks ≡ o → ((y : Kind × List Kind) → pop ks ≡ Some y → ks ≡ y.1 ++ y.0 ∷ []) → popped k o ≡ Some x → k ∷ ks ≡ x.1 ++ x.0 ∷ []
  by_rest None d ih e =
      let q : (k, []) ≡ x = (let r : Some (k, []) ≡ Some x = e in cc) in
      subst (λ (z : Kind × List Kind). k ∷ ks ≡ z.1 ++ z.0 ∷ []) q (ap (λ (zs : List Kind). k ∷ zs) (all_popped ks d))
  by_rest (Some y) d ih e =
      let q : (y.0, k ∷ y.1) ≡ x = (let r : Some (y.0, k ∷ y.1) ≡ Some x = e in cc) in
      subst (λ (z : Kind × List Kind). k ∷ ks ≡ z.1 ++ z.0 ∷ []) q (ap (λ (zs : List Kind). k ∷ zs) (ih y d))

pop_size : (ks : List Kind) (x : Kind × List Kind) → pop ks ≡ Some x → size ks ≡ size x.1 + wide x.0
pop_size ks x e = ap (λ (zs : List Kind). size zs) (pop_is ks x e) ∙ size_one x.1 x.0

taken_size : (n : ℕ) (ks : List Kind) (x : List Kind × List Kind) → taken n ks ≡ Some x → size ks ≡ size x.1 + size x.0
unfolding taken
taken_size n ks x e = by_test (nat_lt (length ks) n) e where
  k : ℕ
  k = length ks - n

  by_test : (b : Bool) → cond b None (Some (drop k ks, take k ks)) ≡ Some x → size ks ≡ size x.1 + size x.0
  by_test true e = absurd cc
  by_test false e =
      let q : (drop k ks, take k ks) ≡ x = (let r : Some (drop k ks, take k ks) ≡ Some x = e in cc) in
      subst (λ (z : List Kind × List Kind). size ks ≡ size z.1 + size z.0) q (ap (λ (zs : List Kind). size zs) (sym (take-append-drop k ks)) ∙ size_append (take k ks) (drop k ks))

fit_size : (k d : Kind) (items : List Item) → fit k d ≡ Some items → wide k ≡ wide d
unfolding fit
fit_size int int items e = refl
fit_size long long items e = refl
fit_size float float items e = refl
fit_size double double items e = refl
fit_size (ref s) (ref t) items e = refl
fit_size null (ref t) items e = refl
fit_size _ _ items e = absurd cc

fit_all_size : (ks ds : List Kind) (items : List Item) → fit_all ks ds ≡ Some items → size ks ≡ size ds
unfolding fit_all
fit_all_size [] [] items e = refl
fit_all_size [] (d ∷ ds) items e = absurd cc
fit_all_size (k ∷ ks) [] items e = absurd cc
fit_all_size (k ∷ ks) (d ∷ ds) items e =
    let f = some_then (fit k d) _ items e in
    let g = some_then (fit_all ks ds) _ items f.2 in
    let h = fit_size k d f.0 f.1 in
    let r = fit_all_size ks ds g.0 g.1 in
    let a = length-append (places k) (places_of ks) in
    let b = length-append (places d) (places_of ds) in
    omega (arith, h, r, a, b)

receiver_size : (k : Kind) (r : Option Bytes) → receiver k ≡ Some r → wide k ≡ 1
receiver_size (ref s) r e = refl
receiver_size null r e = refl
receiver_size _ r e = absurd cc

initialized_size : (a : Around) (m : MemberRefOf) (k : Kind) (i : Item × Bytes) → initialized a m k ≡ Some i → wide k ≡ 1
unfolding initialized
initialized_size a m (fresh at c) i e = refl
initialized_size a m unset i e = refl
initialized_size a m _ i e = absurd cc

loaded_size : (s : Slot) (k : Kind) → of_number (number_of_kind s) k ≡ true → wide k ≡ places_of_kind s
loaded_size kinds.Int int e = refl
loaded_size kinds.Long long e = refl
loaded_size kinds.Float float e = refl
loaded_size kinds.Double double e = refl
loaded_size kinds.Ref null e = refl
loaded_size kinds.Ref (ref s) e = refl
loaded_size kinds.Ref (fresh at c) e = refl
loaded_size kinds.Ref unset e = refl
loaded_size _ _ e = absurd cc

made_size : (from : Kind) (name : Bytes) (k : Kind) → wide (made from name k) ≡ wide k
made_size from name k = by_test (is_same_instance from k) refl where
  by_test : (b : Bool) → is_same_instance from k ≡ b → wide (cond b (ref name) k) ≡ wide k
  by_test false e = refl
  by_test true e = one from k e where
    one : (f j : Kind) → is_same_instance f j ≡ true → 1 ≡ wide j
    one (fresh o c) (fresh p d) e = refl
    one unset unset e = refl
    one _ _ e = absurd cc

all_made_size : (from : Kind) (name : Bytes) (ks : List Kind) → size (map (made from name) ks) ≡ size ks
all_made_size from name [] = refl
all_made_size from name (k ∷ ks) =
    let a = length-append (places (made from name k)) (places_of (map (made from name) ks)) in
    let b = length-append (places k) (places_of ks) in
    let c = made_size from name k in
    let d = all_made_size from name ks in
    omega (arith, a, b, c, d)

-- ---- descriptors

text_length : (t : TypeOf) → slots_of_type t ≤ 2 * length (type_text t)
text_length t = let a = some t.base in let b = two (nat_eq t.dims 0) t.base in let c = length-append (brackets t.dims) (basic_text t.base) in omega (arith, a, b, c) where
  some : (x : Basic) → 1 ≤ length (basic_text x)
  some byte = omega arith
  some char = omega arith
  some double_type = omega arith
  some float_type = omega arith
  some int_type = omega arith
  some long_type = omega arith
  some short = omega arith
  some boolean = omega arith
  some (class name) = let q : 1 ≤ suc (length (name ++ 59 ∷ [])) = omega arith in q

  two : (b : Bool) (x : Basic) → cond b (slots_of_basic x) 1 ≤ 2
  two false x = omega arith
  two true byte = omega arith
  two true char = omega arith
  two true double_type = omega arith
  two true float_type = omega arith
  two true int_type = omega arith
  two true long_type = omega arith
  two true short = omega arith
  two true boolean = omega arith
  two true (class name) = omega arith

types_length : (ts : List TypeOf) → slots_of ts ≤ 2 * length (types_text ts)
types_length [] = omega arith
types_length (t ∷ ts) = let a = text_length t in let b = types_length ts in let c = length-append (type_text t) (types_text ts) in omega (arith, a, b, c)

few_slots : (d : Bytes) (m : Method) → method_of d ≡ Some m → slots_of m.params ≤ 2 * length d
few_slots d m e =
    let s = method_is d m e in
    let a = types_length m.params in
    let b = length-append (types_text m.params) (41 ∷ result_text m.result) in
    let c = ap (λ (bs : Bytes). length bs) s.1 in
    omega (arith, a, b, c)

abbrev pub IsShort : Bytes → Type 0
IsShort d = length d ≤ 65535

-- what a descriptor's kinds and its slots are
record AreSlots (d : Bytes) (k : Kinds) : Type 0 where
  params : size k.params ≡ slots_or_none (slots_of_method d)
  result : (stack : List Kind) → size (with_result k.result stack) ≡ size stack + slots_returned (method_of d)

result_size : (o : Option TypeOf) (stack : List Kind) → size (with_result (option_map kind_of o) stack) ≡ size stack + slots_of_result o
result_size None stack = omega arith
result_size (Some t) stack = size_one stack (kind_of t) ∙ ap (λ (n : ℕ). size stack + n) (type_places t)

method_slots : (d : Bytes) (k : Kinds) → IsShort d → method_kinds d ≡ Some k → AreSlots d k
unfolding method_kinds slots_of_method
method_slots d k h e = by_method (method_of d) refl e where
  by_method : (o : Option Method) → method_of d ≡ o → option_map kinds_of o ≡ Some k → AreSlots d k
  by_method None x e = absurd cc
  by_method (Some m) x e =
      let q : kinds_of m ≡ k = (let r : Some (kinds_of m) ≡ Some k = e in cc) in
      let f = few_slots d m x in
      let p = params_places m.params in
      let c : min (slots_of m.params) 4294967295 ≡ slots_of m.params = omega (arith, f, h) in
      subst (λ (z : Kinds). AreSlots d z) q (record { params = rw x (p ∙ sym c); result = λ stack. rw x (result_size m.result stack) })

field_size : (d : Bytes) (k : Kind) → field_kind d ≡ Some k → wide k ≡ slots_of_field (field_of d)
unfolding field_kind
field_size d k e = by_field (field_of d) e where
  by_field : (o : Option TypeOf) → option_map kind_of o ≡ Some k → wide k ≡ slots_of_field o
  by_field None e = absurd cc
  by_field (Some t) e = let q : kind_of t ≡ k = (let r : Some (kind_of t) ≡ Some k = e in cc) in subst (λ (z : Kind). wide z ≡ slots_of_type t) q (type_places t)

-- ---- what instructions move

-- there are n places on the stack behind an instruction
abbrev pub Moves : ℕ → Option Ran → Type 0
Moves n o = Each (λ (one : Ran). stack_places one.1 ≡ n) o

goes : (n : ℕ) (items : List Item) (stack locals : List Kind) → size stack ≡ n → Moves n (go items stack locals)
goes n items stack locals h = there _ (items, record { stack = stack; locals = locals }) h

module _ (a : Around) (f : Frame) where
  abbrev n : ℕ
  n = size f.stack

  pushed : (items : List Item) (k : Kind) → Moves (n + wide k) (go items (f.stack ++ k ∷ []) f.locals)
  pushed items k = goes (n + wide k) items (f.stack ++ k ∷ []) f.locals (size_one f.stack k)

  load_moves : (s : Slot) (place : ℕ) → Moves (n + places_of_kind s) (load (number_of_kind s) place f)
  unfolding load
  load_moves s place =
      let k : Kind = get_or f.locals place empty in
      either _ (of_number (number_of_kind s) k) _ _ (λ e. goes (n + places_of_kind s) [] (f.stack ++ k ∷ []) f.locals (size_one f.stack k ∙ ap (λ (m : ℕ). n + m) (loaded_size s k e))) (λ e. nowhere _)

  dup_moves : Moves (n + 1) (dup f)
  unfolding dup
  dup_moves = then _ (pop f.stack) _ (λ top e. either _ (takes_two top.0) _ _ (λ t. nowhere _) (λ t. goes (n + 1) [] ((top.1 ++ top.0 ∷ []) ++ top.0 ∷ []) f.locals (
      let p = pop_size f.stack top e in
      let w = one_wide top.0 t in
      let x = size_one (top.1 ++ top.0 ∷ []) top.0 in
      let y = size_one top.1 top.0 in
      omega (arith, p, w, x, y)
      )))

  pop_moves : Moves (n - 1) (pop_one f)
  unfolding pop_one
  pop_moves = then _ (pop f.stack) _ (λ top e. either _ (takes_two top.0) _ _ (λ t. nowhere _) (λ t. goes (n - 1) [] top.1 f.locals (
      let p = pop_size f.stack top e in
      let w = one_wide top.0 t in
      omega (arith, p, w)
      )))

  two_moves : Moves (n - 2) (pop_two f)
  unfolding pop_two
  two_moves = then _ (pop f.stack) _ (λ top e. either _ (takes_two top.0) _ _ (λ t. goes (n - 2) [] top.1 f.locals (
      let p = pop_size f.stack top e in
      let w = two_wide top.0 t in
      omega (arith, p, w)
      )) (λ t. then _ (pop top.1) _ (λ next d. either _ (takes_two next.0) _ _ (λ u. nowhere _) (λ u. goes (n - 2) [] next.1 f.locals (
      let p = pop_size f.stack top e in
      let q = pop_size top.1 next d in
      let w = one_wide top.0 t in
      let v = one_wide next.0 u in
      omega (arith, p, q, w, v)
      )))))

  cast_moves : (name : Bytes) → Moves n (cast name (ref name) f)
  unfolding cast
  cast_moves name = then _ (pop f.stack) _ (λ top e. then _ (receiver top.0) _ (λ r d. goes n _ (top.1 ++ ref name ∷ []) f.locals (
      let p = pop_size f.stack top e in
      let w = receiver_size top.0 r d in
      let x = size_one top.1 (ref name) in
      omega (arith, p, w, x)
      )))

  get_static_moves : (m : MemberRefOf) → Moves (n + slots_of_field (field_of m.descriptor)) (get_static a m f)
  unfolding get_static
  get_static_moves m = then _ (field_kind m.descriptor) _ (λ k e. goes (n + slots_of_field (field_of m.descriptor)) _ (f.stack ++ k ∷ []) f.locals (size_one f.stack k ∙ ap (λ (x : ℕ). n + x) (field_size m.descriptor k e)))

  put_static_moves : (m : MemberRefOf) → Moves (n - slots_of_field (field_of m.descriptor)) (put_static a m f)
  unfolding put_static
  put_static_moves m = then _ (field_kind m.descriptor) _ (λ k e. then _ (pop f.stack) _ (λ value d. then _ (fit value.0 k) _ (λ more c. goes (n - slots_of_field (field_of m.descriptor)) _ value.1 f.locals (
      let p = pop_size f.stack value d in
      let w = fit_size value.0 k more c in
      let x = field_size m.descriptor k e in
      omega (arith, p, w, x)
      ))))

  get_field_moves : (m : MemberRefOf) → Moves ((n - 1) + slots_of_field (field_of m.descriptor)) (get_field a m f)
  unfolding get_field
  get_field_moves m = then _ (field_kind m.descriptor) _ (λ k e. then _ (pop f.stack) _ (λ top d. then _ (receiver top.0) _ (λ r c. goes ((n - 1) + slots_of_field (field_of m.descriptor)) _ (top.1 ++ k ∷ []) f.locals (
      let p = pop_size f.stack top d in
      let w = receiver_size top.0 r c in
      let x = field_size m.descriptor k e in
      let y = size_one top.1 k in
      omega (arith, p, w, x, y)
      ))))

  put_field_moves : (m : MemberRefOf) → Moves (n - (slots_of_field (field_of m.descriptor) + 1)) (put_field a m f)
  unfolding put_field
  put_field_moves m = then _ (field_kind m.descriptor) _ (λ k e. then _ (pop f.stack) _ (λ value d. then _ (pop value.1) _ (λ top c. then _ (receiver top.0) _ (λ r b. then _ (fit value.0 k) _ (λ more t. goes (n - (slots_of_field (field_of m.descriptor) + 1)) _ top.1 f.locals (
      let p = pop_size f.stack value d in
      let q = pop_size value.1 top c in
      let w = receiver_size top.0 r b in
      let v = fit_size value.0 k more t in
      let x = field_size m.descriptor k e in
      omega (arith, p, q, w, v, x)
      ))))))

  static_moves : (what : Act) (m : MemberRefOf) → IsShort m.descriptor → Moves (places_after_static m.descriptor n) (call_static a what m f)
  unfolding call_static
  static_moves what m h = then _ (method_kinds m.descriptor) _ (λ k e. then _ (taken (length k.params) f.stack) _ (λ args d. then _ (fit_all args.0 k.params) _ (λ more c. goes (places_after_static m.descriptor n) _ (with_result k.result args.1) f.locals (
      let s = method_slots m.descriptor k h e in
      let p = taken_size (length k.params) f.stack args d in
      let w = fit_all_size args.0 k.params more c in
      let x = s.result args.1 in
      let y = s.params in
      omega (arith, p, w, x, y)
      ))))

  call_moves : (what : Act) (m : MemberRefOf) → IsShort m.descriptor → Moves (places_after_call m.descriptor n) (call a what m f)
  unfolding call
  call_moves what m h = then _ (method_kinds m.descriptor) _ (λ k e. then _ (taken (length k.params) f.stack) _ (λ args d. then _ (pop args.1) _ (λ top b. then _ (receiver top.0) _ (λ r t. then _ (fit_all args.0 k.params) _ (λ more c. goes (places_after_call m.descriptor n) _ (with_result k.result top.1) f.locals (
      let s = method_slots m.descriptor k h e in
      let p = taken_size (length k.params) f.stack args d in
      let q = pop_size args.1 top b in
      let v = receiver_size top.0 r t in
      let w = fit_all_size args.0 k.params more c in
      let x = s.result top.1 in
      let y = s.params in
      omega (arith, p, q, v, w, x, y)
      ))))))

  construct_moves : (m : MemberRefOf) → IsShort m.descriptor → Moves (n - (slots_or_none (slots_of_method m.descriptor) + 1)) (construct a m f)
  unfolding construct all_made
  construct_moves m h = then _ (method_kinds m.descriptor) _ (λ k e. then _ (taken (length k.params) f.stack) _ (λ args d. then _ (pop args.1) _ (λ top b. then _ (initialized a m top.0) _ (λ i t. then _ (fit_all args.0 k.params) _ (λ more c. goes (n - (slots_or_none (slots_of_method m.descriptor) + 1)) _ (map (made top.0 i.1) top.1) _ (
      let s = method_slots m.descriptor k h e in
      let p = taken_size (length k.params) f.stack args d in
      let q = pop_size args.1 top b in
      let v = initialized_size a m top.0 i t in
      let w = fit_all_size args.0 k.params more c in
      let x = all_made_size top.0 i.1 top.1 in
      let y = s.params in
      omega (arith, p, q, v, w, x, y)
      ))))))

  act_moves : (what : Act) (m : MemberRefOf) → IsShort m.descriptor → Moves (places_after_act what m.descriptor n) (act_on a what m f)
  unfolding act_on
  act_moves acts.GetStatic m h = get_static_moves m
  act_moves acts.PutStatic m h = put_static_moves m
  act_moves acts.GetField m h = get_field_moves m
  act_moves acts.PutField m h = put_field_moves m
  act_moves acts.InvokeStatic m h = static_moves acts.InvokeStatic m h
  act_moves acts.InvokeStaticInterface m h = static_moves acts.InvokeStaticInterface m h
  act_moves what m h = call_moves what m h

-- ---- steps

abbrev pub HasShort : Step → Type 0
HasShort (steps.Member w c k) = IsShort k.descriptor
HasShort (steps.Construct c d) = IsShort d
HasShort _ = Unit {0}

plain_moves : (a : Around) (pc n : ℕ) (f : Frame) (b : Bool) (i : Instruction) → Moves n (run a pc i f) → Moves n (cond b None (Some i) |>> λ j. run a pc j f)
plain_moves a pc n f true i h = nowhere _
plain_moves a pc n f false i h = h

pub step_moves : (a : Around) (pc : ℕ) (f : Frame) (s : Step) → HasShort s → Moves (places_after_step s (stack_places f)) (instruction_of s |>> λ i. run a pc i f)
unfolding run
step_moves a pc f steps.Null h = pushed a f [] null
step_moves a pc f (steps.Zero prims.Int) h = pushed a f [] int
step_moves a pc f (steps.Zero prims.Long) h = pushed a f [] long
step_moves a pc f (steps.Zero prims.Float) h = pushed a f [] float
step_moves a pc f (steps.Zero prims.Double) h = pushed a f [] double
step_moves a pc f (steps.Load s i) h = load_moves a f s i
step_moves a pc f (steps.New c) h = pushed a f _ (fresh pc c)
step_moves a pc f steps.Dup h = dup_moves a f
step_moves a pc f steps.Pop h = pop_moves a f
step_moves a pc f steps.Pop2 h = two_moves a f
step_moves a pc f (steps.Cast c) h = cast_moves a f c
step_moves a pc f (steps.Member w c k) h = plain_moves a pc _ f (is_array_name c) _ (act_moves a f w _ h)
step_moves a pc f (steps.Construct c d) h = plain_moves a pc _ f (is_array_name c) _ (construct_moves a f _ h)
step_moves a pc f (steps.Return r) h = nowhere _
