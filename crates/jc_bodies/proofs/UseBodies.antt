-- The bodies of the planned methods `use` type to the items of their rows.
use Rattle.std.proofs.Common.{◌≡◌, ℕ, ◌+◌, true, false, List, [], ◌∷◌, ◌++◌, map, Option, Some, None, refl, ap, ◌∙◌, arith}
use Rattle.jc_desc.proofs.Methods.{method_again}
use Rattle.jc_desc.specs.Names.{spells_class_name}
use Rattle.jc_desc.specs.Reading.{method_of}
use Rattle.jc_desc.specs.Types.{Method}
use Rattle.jc_facts.specs.declared.class_facts.ClassFacts.{ClassFacts}
use Rattle.jc_facts.specs.declared.client.Item.{Item}
use Rattle.jc_facts.specs.declared.client.Item.TheVariants as item
use Rattle.jc_facts.specs.declared.blueprint.Step.{Step}
use Rattle.jc_facts.specs.declared.blueprint.Step.TheVariants as steps
use Rattle.jc_facts.specs.file.Attributes.{is_array_name, ◌|>>◌}
use Rattle.jc_facts.specs.Names.{Bytes, same}
use Rattle.jc_facts.specs.code.Code.{Around}
use Rattle.jc_facts.specs.written.Bodies.{init_name}
use Rattle.jc_facts.specs.code.Typing.{Kind, ref, fresh, Frame, kind_of, Kinds, method_kinds, start_of, load, pop, pop_one, dup, cast, value_fits, leave, fit, initialized, all_made, run}
use Rattle.jc_facts.specs.written.TypedSteps.{typed_steps, step_len, reference}
use Rattle.jc_facts.specs.written.TypedItems.{around_method, typed_body}
use Rattle.jc_promises.specs.plan.Planned.{class_type, takes_nothing, takes, turns, use_method}
use Rattle.jc_promises.specs.plan.PlannedBodies.{zeros, params_of, cast_steps, turn_steps, make_steps}
use Rattle.jc_bodies.proofs.Zeros.{pushed, on, no_items, zeros_typed}
use Rattle.jc_bodies.proofs.InitBody.{made_none, constructed, step_typed, init_kinds}

-- ---- descriptors

pub takes_kinds : (x : Bytes) → spells_class_name x ≡ true → method_kinds (takes x) ≡ Some (record { params = ref x ∷ []; result = None })
unfolding method_kinds kind_of
takes_kinds x h = rw (method_again (takes x) (record { params = class_type x ∷ []; result = None }) (record { params = (record { dims = omega arith; base = h }, tt); result = tt }, refl)) refl

turns_kinds : (s t : Bytes) → spells_class_name s ≡ true → spells_class_name t ≡ true → method_kinds (turns s t) ≡ Some (record { params = ref s ∷ []; result = Some (ref t) })
unfolding method_kinds kind_of
turns_kinds s t h k = rw (method_again (turns s t) (record { params = class_type s ∷ []; result = Some (class_type t) }) (record { params = (record { dims = omega arith; base = h }, tt); result = record { dims = omega arith; base = k } }, refl)) refl

-- ---- H1

abbrev pub started : List Kind → Frame
started ks = record { stack = []; locals = ks }

cast_steps_typed : (c : ClassFacts) (d x k : Bytes) → typed_steps (around_method c (use_method d)) None 0 (started (ref x ∷ [])) (cast_steps k) ≡ Some (item.Class k ∷ [])
unfolding typed_steps run load cast pop pop_one leave
cast_steps_typed c d x k = refl

pub cast_typed : (c : ClassFacts) (x k : Bytes) → spells_class_name x ≡ true → typed_body c (use_method (takes x)) (record { steps = cast_steps k }) ≡ Some (item.Class k ∷ [])
unfolding typed_body
cast_typed c x k h =
    let a : Around = around_method c (use_method (takes x)) in
    ap (λ (o : Option Kinds). o |>> λ m. typed_steps a m.result 0 (start_of a m.params) (cast_steps k)) (takes_kinds x h) ∙ cast_steps_typed c (takes x) x k

-- ---- H3 and H4

turn_steps_typed : (c : ClassFacts) (d s t : Bytes) → same s t ≡ false → typed_steps (around_method c (use_method d)) (Some (ref t)) 0 (started (ref s ∷ [])) turn_steps ≡ Some (item.Assign s t ∷ [])
unfolding typed_steps run load pop leave value_fits fit
turn_steps_typed c d s t e = rw e refl

pub turn_typed : (c : ClassFacts) (s t : Bytes) → spells_class_name s ≡ true → spells_class_name t ≡ true → same s t ≡ false → typed_body c (use_method (turns s t)) (record { steps = turn_steps }) ≡ Some (item.Assign s t ∷ [])
unfolding typed_body
turn_typed c s t h k e =
    let a : Around = around_method c (use_method (turns s t)) in
    ap (λ (o : Option Kinds). o |>> λ m. typed_steps a m.result 0 (start_of a m.params) turn_steps) (turns_kinds s t h k) ∙ turn_steps_typed c (turns s t) s t e

-- ---- H5 new

new_called : (a : Around) (c d : Bytes) → same c c ≡ true → initialized a (reference 10 c init_name d) (fresh 0 c) ≡ Some (item.New c d, c)
unfolding initialized
new_called a c d h = rw h refl

made_fresh : (c : Bytes) → same c c ≡ true → all_made (fresh 0 c) c (fresh 0 c ∷ []) ≡ ref c ∷ []
unfolding all_made
made_fresh c h = rw h refl

abbrev two_fresh : Bytes → Frame
two_fresh c = record { stack = (fresh 0 c ∷ []) ++ fresh 0 c ∷ []; locals = [] }

made_two : (a : Around) (c : Bytes) (ss : List Step) → typed_steps a None 0 (started []) (steps.New c ∷ steps.Dup ∷ ss)
    ≡ ((typed_steps a None ((0 + step_len (steps.New c)) + step_len steps.Dup) (two_fresh c) ss |>> λ others. Some ([] ++ others)) |>> λ others. Some ((item.Class c ∷ []) ++ others))
unfolding typed_steps run dup pop
made_two a c ss = refl

ended : (c : ClassFacts) (x : Bytes) (pc : ℕ) → typed_steps (around_method c (use_method takes_nothing)) None pc (record { stack = ref x ∷ []; locals = [] }) (steps.Pop ∷ steps.Return None ∷ []) ≡ Some []
unfolding typed_steps run pop_one pop leave
ended c x pc = refl

pub make_typed : (c : ClassFacts) (x descriptor : Bytes) (d : Method) → same x x ≡ true → is_array_name x ≡ false → method_of descriptor ≡ Some d → typed_body c (use_method takes_nothing) (record { steps = make_steps x descriptor }) ≡ Some (item.Class x ∷ item.New x descriptor ∷ [])
unfolding typed_body
make_typed c x descriptor d h b m =
    let a : Around = around_method c (use_method takes_nothing) in
    let f : Frame = two_fresh x in
    let pc : ℕ = (0 + step_len (steps.New x)) + step_len steps.Dup in
    let last : List Step = steps.Pop ∷ steps.Return None ∷ [] in
    let call : List Step = steps.Construct x descriptor ∷ last in
    let z = zeros_typed a None pc f d.params call in
    let k = constructed a (reference 10 x init_name descriptor) (fresh 0 x ∷ []) [] (fresh 0 x) d (item.New x descriptor, x) m (new_called a x descriptor h) in
    let g : Frame = record { stack = all_made (fresh 0 x) x (fresh 0 x ∷ []); locals = all_made (fresh 0 x) x [] } in
    let left : typed_steps a None (z.0 + step_len (steps.Construct x descriptor)) g last ≡ Some [] =
    ap (λ (ks : List Kind). typed_steps a None (z.0 + step_len (steps.Construct x descriptor)) (record { stack = ks; locals = all_made (fresh 0 x) x [] }) last) (made_fresh x h)
    ∙ ap (λ (ks : List Kind). typed_steps a None (z.0 + step_len (steps.Construct x descriptor)) (record { stack = ref x ∷ []; locals = ks }) last) (made_none (fresh 0 x) x)
    ∙ ended c x (z.0 + step_len (steps.Construct x descriptor)) in
    let s = step_typed a None z.0 (on f (map pushed d.params)) g x descriptor (item.New x descriptor ∷ []) [] last b k left in
    let rest : List Step = zeros (params_of (method_of descriptor)) ++ call in
    let all : typed_steps a None pc f rest ≡ Some (item.New x descriptor ∷ []) = ap (λ (o : Option Method). typed_steps a None pc f (zeros (params_of o) ++ call)) m ∙ z.1 ∙ s in
    ap (λ (o : Option Kinds). o |>> λ y. typed_steps a y.result 0 (start_of a y.params) (make_steps x descriptor)) init_kinds
    ∙ made_two a x rest
    ∙ ap (λ (o : Option (List Item)). o |>> λ others. Some ((item.Class x ∷ []) ++ others)) (no_items (typed_steps a None pc f rest) ∙ all)
