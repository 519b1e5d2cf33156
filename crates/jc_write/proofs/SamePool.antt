-- Typing of steps looks into no pool, and at no bootstrap rows.
use Rattle.std.proofs.Common.{◌≡◌, ℕ, List, [], ◌∷◌, Option, Some, None, refl, ap, ◌∙◌}
use Rattle.jc_desc.specs.Pool.{PoolOf}
use Rattle.jc_facts.specs.declared.act.Act.{Act}
use Rattle.jc_facts.specs.declared.act.Act.TheVariants as acts
use Rattle.jc_facts.specs.declared.class_facts.ClassFacts.{ClassFacts}
use Rattle.jc_facts.specs.declared.class_facts.Member.{Member}
use Rattle.jc_facts.specs.declared.blueprint.Slot.{Slot}
use Rattle.jc_facts.specs.declared.blueprint.Step.{Step}
use Rattle.jc_facts.specs.declared.blueprint.Step.TheVariants as steps
use Rattle.jc_desc.specs.PoolAnswers.{MemberRefOf}
use Rattle.jc_facts.specs.file.Attributes.{◌|>>◌}
use Rattle.jc_facts.specs.code.Code.{Around}
use Rattle.jc_facts.specs.code.Typing.{Kind, Frame, get_static, put_static, get_field, put_field, call_static, call, construct, initialized, act_on, Instruction, uses, constructs, run, leave}
use Rattle.jc_facts.specs.written.TypedSteps.{instruction_of, typed_steps, returned}
use Rattle.jc_facts.specs.written.TypedItems.{around_method}
use Rattle.jc_write.proofs.CodeTyped.{Ran, Rest, next_steps}

-- the same method, with this pool
abbrev pub within : PoolOf → ClassFacts → Member → Around
within p c m = record { pool = p; class = c.name; superclass = c.superclass; boots = None; name = m.name; descriptor = m.descriptor; flags = m.flags }

same_construct : (p : PoolOf) (c : ClassFacts) (m : Member) (r : MemberRefOf) (f : Frame) → construct (within p c m) r f ≡ construct (around_method c m) r f
unfolding construct initialized
same_construct p c m r f = refl

same_act : (p : PoolOf) (c : ClassFacts) (m : Member) (w : Act) (r : MemberRefOf) (f : Frame) → act_on (within p c m) w r f ≡ act_on (around_method c m) w r f
unfolding act_on get_static put_static get_field put_field call_static call
same_act p c m acts.GetStatic r f = refl
same_act p c m acts.PutStatic r f = refl
same_act p c m acts.GetField r f = refl
same_act p c m acts.PutField r f = refl
same_act p c m acts.InvokeStatic r f = refl
same_act p c m acts.InvokeStaticInterface r f = refl
same_act p c m w r f = refl

same_run : (p : PoolOf) (c : ClassFacts) (m : Member) (pc : ℕ) (i : Instruction) (f : Frame) → run (within p c m) pc i f ≡ run (around_method c m) pc i f
unfolding run
same_run p c m pc (uses what r) f = same_act p c m what r f
same_run p c m pc (constructs r) f = same_construct p c m r f
same_run p c m pc _ f = refl

same_leave : (p : PoolOf) (c : ClassFacts) (m : Member) (op : ℕ) (f : Frame) (due : Option Kind) → leave (within p c m) op f due ≡ leave (around_method c m) op f due
unfolding leave
same_leave p c m op f due = refl

abbrev Same : PoolOf → ClassFacts → Member → Option Kind → List Step → Type 0
Same p c m due ss = (pc : ℕ) (f : Frame) → typed_steps (within p c m) due pc f ss ≡ typed_steps (around_method c m) due pc f ss

abbrev Later : Around → Option Kind → ℕ → List Step → ℕ → Frame → Instruction → Rest
Later a due k ss pc f i = run a pc i f |>> next_steps a due k ss

same_ran : (p : PoolOf) (c : ClassFacts) (m : Member) (due : Option Kind) (k : ℕ) (ss : List Step) → Same p c m due ss → (o : Option Ran) → (o |>> next_steps (within p c m) due k ss) ≡ (o |>> next_steps (around_method c m) due k ss)
same_ran p c m due k ss h None = refl
same_ran p c m due k ss h (Some one) = rw (h k one.1) refl

same_one : (p : PoolOf) (c : ClassFacts) (m : Member) (due : Option Kind) (k : ℕ) (ss : List Step) (pc : ℕ) (f : Frame) → Same p c m due ss → (o : Option Instruction) → (o |>> Later (within p c m) due k ss pc f) ≡ (o |>> Later (around_method c m) due k ss pc f)
same_one p c m due k ss pc f h None = refl
same_one p c m due k ss pc f h (Some i) = ap (λ (o : Option Ran). o |>> next_steps (within p c m) due k ss) (same_run p c m pc i f) ∙ same_ran p c m due k ss h (run (around_method c m) pc i f)

same_returned : (p : PoolOf) (c : ClassFacts) (m : Member) (due : Option Kind) (f : Frame) (r : Option Slot) (ss : List Step) → returned (within p c m) due f r ss ≡ returned (around_method c m) due f r ss
same_returned p c m due f r [] = same_leave p c m _ f due
same_returned p c m due f r (s ∷ ss) = refl

pub same_steps : (p : PoolOf) (c : ClassFacts) (m : Member) (due : Option Kind) (ss : List Step) → Same p c m due ss
unfolding typed_steps
same_steps p c m due [] pc f = refl
same_steps p c m due (steps.Return r ∷ ss) pc f = same_returned p c m due f r ss
same_steps p c m due (s ∷ ss) pc f = same_one p c m due _ ss pc f (same_steps p c m due ss) (instruction_of s)
