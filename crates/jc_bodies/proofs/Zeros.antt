-- Zeros and nulls of the types that are due: they are pushed without an item, and fit.
use Rattle.std.proofs.Common.{◌≡◌, ℕ, ◌+◌, ◌-◌, Bool, true, false, cond, List, [], ◌∷◌, ◌++◌, length, map, Option, Some, None, refl, sym, ap, ◌∙◌, arith, nat_eq, nat_lt, append_assoc}
use Rattle.std.proofs.lemmas.Bool.{le-ltb}
use Rattle.std.proofs.lemmas.List.{length-append, take_at, drop_at, append-nil}
use Rattle.jc_desc.specs.Types.{Basic, byte, char, double as double_type, float as float_type, int as int_type, long as long_type, short, boolean, class, TypeOf, type_text}
use Rattle.jc_facts.specs.declared.client.Item.{Item}
use Rattle.jc_facts.specs.declared.blueprint.Primitive.TheVariants as prims
use Rattle.jc_facts.specs.declared.blueprint.Step.{Step}
use Rattle.jc_facts.specs.declared.blueprint.Step.TheVariants as steps
use Rattle.jc_facts.specs.file.Attributes.{◌|>>◌}
use Rattle.jc_facts.specs.code.Code.{Around}
use Rattle.jc_facts.specs.code.Typing.{Kind, int, long, float, double, null, ref, Frame, basic_kind, kind_of, fit, fit_all, taken, run}
use Rattle.jc_facts.specs.written.TypedSteps.{typed_steps, step_len}
use Rattle.jc_promises.specs.plan.PlannedBodies.{basic_zero, zero_step, zeros}

-- ---- what they push

abbrev pub basic_pushed : Basic → Kind
basic_pushed double_type = double
basic_pushed float_type = float
basic_pushed long_type = long
basic_pushed (class name) = null
basic_pushed _ = int

abbrev pub pushed : TypeOf → Kind
pushed t = cond (nat_eq t.dims 0) (basic_pushed t.base) null

abbrev pub on : Frame → List Kind → Frame
on f ks = record { stack = f.stack ++ ks; locals = f.locals }

pub no_items : (o : Option (List Item)) → (o |>> λ others. Some ([] ++ others)) ≡ o
no_items None = refl
no_items (Some x) = refl

zero_typed : (a : Around) (due : Option Kind) (pc : ℕ) (f : Frame) (t : TypeOf) (ss : List Step) → (next : ℕ) × (typed_steps a due pc f (zero_step t ∷ ss) ≡ typed_steps a due next (on f (pushed t ∷ [])) ss)
unfolding typed_steps run
zero_typed a due pc f t ss = by_dims (nat_eq t.dims 0) t.base where
  by_dims : (b : Bool) (x : Basic) → (next : ℕ) × (typed_steps a due pc f (cond b (basic_zero x) steps.Null ∷ ss) ≡ typed_steps a due next (on f (cond b (basic_pushed x) null ∷ [])) ss)
  by_dims false x = (pc + step_len steps.Null, no_items _)
  by_dims true byte = (pc + step_len (steps.Zero prims.Int), no_items _)
  by_dims true char = (pc + step_len (steps.Zero prims.Int), no_items _)
  by_dims true int_type = (pc + step_len (steps.Zero prims.Int), no_items _)
  by_dims true short = (pc + step_len (steps.Zero prims.Int), no_items _)
  by_dims true boolean = (pc + step_len (steps.Zero prims.Int), no_items _)
  by_dims true long_type = (pc + step_len (steps.Zero prims.Long), no_items _)
  by_dims true float_type = (pc + step_len (steps.Zero prims.Float), no_items _)
  by_dims true double_type = (pc + step_len (steps.Zero prims.Double), no_items _)
  by_dims true (class name) = (pc + step_len steps.Null, no_items _)

-- zeros of these types, and what comes behind
pub zeros_typed : (a : Around) (due : Option Kind) (pc : ℕ) (f : Frame) (ts : List TypeOf) (ss : List Step) → (next : ℕ) × (typed_steps a due pc f (zeros ts ++ ss) ≡ typed_steps a due next (on f (map pushed ts)) ss)
zeros_typed a due pc f [] ss = (pc, ap (λ (ks : List Kind). typed_steps a due pc (record { stack = ks; locals = f.locals }) ss) (sym (append-nil f.stack)))
zeros_typed a due pc f (t ∷ ts) ss =
    let one = zero_typed a due pc f t (zeros ts ++ ss) in
    let more = zeros_typed a due one.0 (on f (pushed t ∷ [])) ts ss in
    (more.0, one.1 ∙ more.1 ∙ ap (λ (ks : List Kind). typed_steps a due more.0 (record { stack = ks; locals = f.locals }) ss) (append_assoc f.stack (pushed t ∷ []) (map pushed ts)))

-- ---- they fit

pub zero_fits : (t : TypeOf) → fit (pushed t) (kind_of t) ≡ Some []
unfolding fit kind_of
zero_fits t = by_dims (nat_eq t.dims 0) t.base where
  by_dims : (b : Bool) (x : Basic) → fit (cond b (basic_pushed x) null) (cond b (basic_kind x) (ref (type_text t))) ≡ Some []
  by_dims false x = refl
  by_dims true byte = refl
  by_dims true char = refl
  by_dims true int_type = refl
  by_dims true short = refl
  by_dims true boolean = refl
  by_dims true long_type = refl
  by_dims true float_type = refl
  by_dims true double_type = refl
  by_dims true (class name) = refl

pub zeros_fit : (ts : List TypeOf) → fit_all (map pushed ts) (map kind_of ts) ≡ Some []
unfolding fit_all
zeros_fit [] = refl
zeros_fit (t ∷ ts) = rw (zero_fits t, zeros_fit ts) refl

-- ---- the last values of a stack

pub last_taken : (stack args : List Kind) (n : ℕ) → length args ≡ n → taken n (stack ++ args) ≡ Some (args, stack)
unfolding taken
last_taken stack args n e =
    let l = length-append stack args in
    let few : nat_lt (length (stack ++ args)) n ≡ false = le-ltb _ _ (omega (arith, l, e)) in
    let k : length stack ≡ length (stack ++ args) - n = omega (arith, l, e) in
    rw (few, drop_at stack args (length (stack ++ args) - n) k, take_at stack args (length (stack ++ args) - n) k) refl
