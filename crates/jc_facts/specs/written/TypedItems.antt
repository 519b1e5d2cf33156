-- The items of a class file that is written: what its bodies type to (JVMS 2.6.1, 2.6.2, 6.5).
--     typed_items b      the items of all bodies in order
--     IsTyped b      each body types, and what its calls name can be called
--     IsWritable b      all that is asked of a blueprint
--     AreMost c ms bodies      what is written as max_stack is the largest number of places during typing
use Rattle.std.specs.Prelude.{◌≡◌, ℕ, ◌+◌, length, List, [], ◌∷◌, ◌++◌, Option, Some, None, Bool, true, ◌&&◌, not, nat_le, is_some, IsTrue, max}
use Rattle.std.specs.List.{list_all}
use Rattle.jc_desc.specs.Names.{is_init_name}
use Rattle.jc_desc.specs.Reading.{slots_of_method}
use Rattle.jc_facts.specs.declared.act.Act.{Act}
use Rattle.jc_facts.specs.declared.act.Act.TheVariants as acts
use Rattle.jc_facts.specs.declared.blueprint.Blueprint.{Blueprint}
use Rattle.jc_facts.specs.declared.blueprint.Body.{Body}
use Rattle.jc_facts.specs.declared.blueprint.Step.{Step}
use Rattle.jc_facts.specs.declared.blueprint.Step.TheVariants as steps
use Rattle.jc_facts.specs.declared.class_facts.ClassFacts.{ClassFacts}
use Rattle.jc_facts.specs.declared.class_facts.Member.{Member}
use Rattle.jc_facts.specs.declared.client.Item.{Item}
use Rattle.jc_facts.specs.declared.key.Key.{Key}
use Rattle.jc_facts.specs.file.Attributes.{◌|>>◌}
use Rattle.jc_facts.specs.code.Code.{Around}
use Rattle.jc_facts.specs.code.Typing.{Frame, Kinds, places_of, run, method_kinds, start_of}
use Rattle.jc_facts.specs.written.Bodies.{slots_or_none, places_at_most}
use Rattle.jc_facts.specs.written.Written.{IsFormed}
use Rattle.jc_facts.specs.written.TypedSteps.{instruction_of, step_len, typed_steps}

-- ---- items

-- a method of a class; typing of steps looks into no pool
abbrev pub around_method : ClassFacts → Member → Around
around_method c m = record { pool = record { major = c.major; slots = [] }; class = c.name; superclass = c.superclass; boots = None; name = m.name; descriptor = m.descriptor; flags = m.flags }

-- the items of a body, None where it doesn't type
unfoldable pub typed_body : ClassFacts → Member → Body → Option (List Item)
typed_body c m body = method_kinds m.descriptor |>> λ k. typed_steps (around_method c m) k.result 0 (start_of (around_method c m) k.params) body.steps

abbrev pub or_nothing : Option (List Item) → List Item
or_nothing None = []
or_nothing (Some is) = is

abbrev pub body_items : ClassFacts → Member → Option Body → List Item
body_items c m None = []
body_items c m (Some body) = or_nothing (typed_body c m body)

-- those of methods with these bodies
abbrev pub bodies_items : ClassFacts → List Member → List (Option Body) → List Item
bodies_items c [] bodies = []
bodies_items c (m ∷ ms) [] = []
bodies_items c (m ∷ ms) (b ∷ bs) = body_items c m b ++ bodies_items c ms bs

unfoldable pub typed_items : Blueprint → List Item
typed_items b = bodies_items b.facts b.facts.methods b.bodies

-- ---- places

abbrev pub stack_places : Frame → ℕ
stack_places f = length (places_of f.stack)

abbrev pub most_behind : Option (List Item × Frame) → (Frame → ℕ) → ℕ
most_behind None most = 0
most_behind (Some one) most = most one.1

-- the largest number of places on the stack during typing, from this place and frame on
unfoldable pub typed_most : Around → ℕ → Frame → List Step → ℕ
typed_most a pc f [] = stack_places f
typed_most a pc f (s ∷ ss) = max (stack_places f) (most_behind (instruction_of s |>> λ i. run a pc i f) (λ g. typed_most a (pc + step_len s) g ss))

-- of a whole body, whose method has these kinds
abbrev pub most_of_kinds : ClassFacts → Member → Body → Option Kinds → ℕ
most_of_kinds c m body None = 0
most_of_kinds c m body (Some k) = typed_most (around_method c m) 0 (start_of (around_method c m) k.params) body.steps

-- ---- what is asked of bodies

-- a field, or a method that isn't `<init>`; the slots of the parameters and the object of an invokeinterface have a number of one byte
-- (JVMS 6.5, invokeinterface)
abbrev pub is_callable : Act → Key → Bool
is_callable acts.GetStatic k = true
is_callable acts.PutStatic k = true
is_callable acts.GetField k = true
is_callable acts.PutField k = true
is_callable acts.InvokeInterface k = not (is_init_name k.name) && nat_le (slots_or_none (slots_of_method k.descriptor)) 254
is_callable a k = not (is_init_name k.name)

abbrev pub is_callable_step : Step → Bool
is_callable_step (steps.Member a c k) = is_callable a k
is_callable_step _ = true

abbrev pub body_typed : ClassFacts → Member → Option Body → Bool
body_typed c m None = true
body_typed c m (Some body) = is_some (typed_body c m body) && list_all is_callable_step body.steps

abbrev pub bodies_typed : ClassFacts → List Member → List (Option Body) → Bool
bodies_typed c [] bodies = true
bodies_typed c (m ∷ ms) [] = true
bodies_typed c (m ∷ ms) (b ∷ bs) = body_typed c m b && bodies_typed c ms bs

abbrev pub IsTyped : Blueprint → Type 0
IsTyped b = IsTrue (bodies_typed b.facts b.facts.methods b.bodies)

-- it is formed, and its bodies type
pub record IsWritable (b : Blueprint) : Type 0 where
  pub formed : IsFormed b
  pub typed : IsTyped b

-- ---- what is written as max_stack is the largest number of places during typing

abbrev pub IsMost : ClassFacts → Member → Option Body → Type 0
IsMost c m None = Unit {0}
IsMost c m (Some body) = places_at_most body.steps ≡ most_of_kinds c m body (method_kinds m.descriptor)

abbrev pub AreMost : ClassFacts → List Member → List (Option Body) → Type 0
AreMost c [] bodies = Unit {0}
AreMost c (m ∷ ms) [] = Unit {0}
AreMost c (m ∷ ms) (b ∷ bs) = IsMost c m b × AreMost c ms bs
