-- The bodies that act on a member type to the one item of the act.
use Rattle.std.proofs.Common.{◌≡◌, ℕ, ◌+◌, Bool, true, false, cond, List, [], ◌∷◌, ◌++◌, length, map, Option, Some, None, refl, sym, ap, ◌∙◌, nat_eq}
use Rattle.std.specs.List.{list_all}
use Rattle.std.specs.Option.{option_map}
use Rattle.std.proofs.lemmas.List.{length-map}
use Rattle.jc_desc.specs.Names.{spells_class_name}
use Rattle.jc_desc.specs.PoolAnswers.{MemberRefOf}
use Rattle.jc_desc.specs.Reading.{method_of, field_of}
use Rattle.jc_desc.specs.Types.{Basic, byte, char, double as double_type, float as float_type, int as int_type, long as long_type, short, boolean, class, TypeOf, Method, slots_of_basic, type_text}
use Rattle.jc_facts.specs.declared.act.Act.{Act}
use Rattle.jc_facts.specs.declared.act.Act.TheVariants as acts
use Rattle.jc_facts.specs.declared.blueprint.Step.{Step}
use Rattle.jc_facts.specs.declared.blueprint.Step.TheVariants as steps
use Rattle.jc_facts.specs.declared.class_facts.ClassFacts.{ClassFacts}
use Rattle.jc_facts.specs.declared.client.Item.{Item}
use Rattle.jc_facts.specs.declared.key.Key.{Key}
use Rattle.jc_facts.specs.client.Acts.{is_act_on_static}
use Rattle.jc_facts.specs.file.Attributes.{is_array_name, ◌|>>◌}
use Rattle.jc_facts.specs.Names.{Bytes}
use Rattle.jc_facts.specs.code.Code.{Around}
use Rattle.jc_facts.specs.written.Bodies.{tag_of_act}
use Rattle.jc_facts.specs.code.Typing.{Kind, ref, Frame, basic_kind, kind_of, Kinds, method_kinds, field_kind, start_of, load, pop, pop_one, pop_two, leave, with_result, use_of, get_static, put_static, get_field, put_field, call_static, call, act_on, go, run}
use Rattle.jc_facts.specs.written.TypedSteps.{typed_steps, step_len, reference}
use Rattle.jc_facts.specs.written.TypedItems.{around_method, typed_body, is_callable, is_callable_step}
use Rattle.jc_promises.specs.plan.Planned.{takes_nothing, takes, use_method, act_item}
use Rattle.jc_promises.specs.plan.PlannedBodies.{zeros, params_of, result_of, taken_by, given_by, pops_of, first_local, act_steps}
use Rattle.jc_bodies.proofs.Zeros.{pushed, no_items, zeros_typed, zero_fits, zeros_fit, last_taken}
use Rattle.jc_bodies.proofs.InitBody.{init_kinds}
use Rattle.jc_bodies.proofs.UseBodies.{started, takes_kinds}
use Rattle.jc_bodies.proofs.Rows.{IsBody, zeros_callable}

-- ---- the end

pops_typed : (c : ClassFacts) (d : Bytes) (pc : ℕ) (ls : List Kind) (o : Option TypeOf) → typed_steps (around_method c (use_method d)) None pc (record { stack = with_result (option_map kind_of o) []; locals = ls }) (pops_of o ++ steps.Return None ∷ []) ≡ Some []
unfolding typed_steps run pop_one pop_two pop leave kind_of
pops_typed c d pc ls None = refl
pops_typed c d pc ls (Some t) = by_dims (nat_eq t.dims 0) t.base where
  by_dims : (b : Bool) (x : Basic) → typed_steps (around_method c (use_method d)) None pc (record { stack = cond b (basic_kind x) (ref (type_text t)) ∷ []; locals = ls }) (cond (nat_eq (cond b (slots_of_basic x) 1) 2) steps.Pop2 steps.Pop ∷ steps.Return None ∷ []) ≡ Some []
  by_dims false x = refl
  by_dims true byte = refl
  by_dims true char = refl
  by_dims true int_type = refl
  by_dims true short = refl
  by_dims true boolean = refl
  by_dims true long_type = refl
  by_dims true float_type = refl
  by_dims true double_type = refl
  by_dims true (class name) = refl

member_typed : (a : Around) (pc : ℕ) (f g : Frame) (what : Act) (x : Bytes) (k : Key) (found others : List Item) (ss : List Step) → is_array_name x ≡ false → act_on a what (reference (tag_of_act what) x k.name k.descriptor) f ≡ Some (found, g)
    → typed_steps a None (pc + step_len (steps.Member what x k)) g ss ≡ Some others → typed_steps a None pc f (steps.Member what x k ∷ ss) ≡ Some (found ++ others)
unfolding typed_steps run
member_typed a pc f g what x k found others ss b e n = rw (b, e, n) refl

-- ---- what acts do on zeros

-- with this stack below the zeros, and this receiver
abbrev pub Acts : Around → Act → Bytes → Key → List Kind → Option Bytes → Type 0
Acts a what x k below r = (ls : List Kind) → act_on a what (reference (tag_of_act what) x k.name k.descriptor) (record { stack = below ++ map pushed (taken_by what k.descriptor); locals = ls })
    ≡ go (use_of a what (reference (tag_of_act what) x k.name k.descriptor) r ∷ []) (with_result (option_map kind_of (given_by what k.descriptor)) []) ls

static_called : (a : Around) (what : Act) (m : MemberRefOf) (d : Method) (ls : List Kind) → method_of m.descriptor ≡ Some d
    → call_static a what m (record { stack = [] ++ map pushed (params_of (method_of m.descriptor)); locals = ls }) ≡ go (use_of a what m None ∷ []) (with_result (option_map kind_of (result_of (method_of m.descriptor))) []) ls
unfolding call_static method_kinds
static_called a what m d ls e =
    let size : length (map pushed d.params) ≡ length (map kind_of d.params) = length-map d.params pushed ∙ sym (length-map d.params kind_of) in
    rw (e, last_taken [] (map pushed d.params) (length (map kind_of d.params)) size, zeros_fit d.params) refl

called : (a : Around) (what : Act) (m : MemberRefOf) (r : Bytes) (d : Method) (ls : List Kind) → method_of m.descriptor ≡ Some d
    → call a what m (record { stack = (ref r ∷ []) ++ map pushed (params_of (method_of m.descriptor)); locals = ls }) ≡ go (use_of a what m (Some r) ∷ []) (with_result (option_map kind_of (result_of (method_of m.descriptor))) []) ls
unfolding call method_kinds pop
called a what m r d ls e =
    let size : length (map pushed d.params) ≡ length (map kind_of d.params) = length-map d.params pushed ∙ sym (length-map d.params kind_of) in
    rw (e, last_taken (ref r ∷ []) (map pushed d.params) (length (map kind_of d.params)) size, zeros_fit d.params) refl

pub get_static_acts : (a : Around) (x : Bytes) (k : Key) (t : TypeOf) → field_of k.descriptor ≡ Some t → Acts a acts.GetStatic x k [] None
unfolding act_on get_static field_kind
get_static_acts a x k t e ls = rw e refl

pub put_static_acts : (a : Around) (x : Bytes) (k : Key) (t : TypeOf) → field_of k.descriptor ≡ Some t → Acts a acts.PutStatic x k [] None
unfolding act_on put_static field_kind pop
put_static_acts a x k t e ls = rw (e, zero_fits t) refl

pub get_field_acts : (a : Around) (x r : Bytes) (k : Key) (t : TypeOf) → field_of k.descriptor ≡ Some t → Acts a acts.GetField x k (ref r ∷ []) (Some r)
unfolding act_on get_field field_kind pop
get_field_acts a x r k t e ls = rw e refl

pub put_field_acts : (a : Around) (x r : Bytes) (k : Key) (t : TypeOf) → field_of k.descriptor ≡ Some t → Acts a acts.PutField x k (ref r ∷ []) (Some r)
unfolding act_on put_field field_kind pop
put_field_acts a x r k t e ls = rw (e, zero_fits t) refl

pub static_acts : (a : Around) (x : Bytes) (k : Key) (d : Method) → method_of k.descriptor ≡ Some d → Acts a acts.InvokeStatic x k [] None
unfolding act_on
static_acts a x k d e ls = static_called a acts.InvokeStatic (reference (tag_of_act acts.InvokeStatic) x k.name k.descriptor) d ls e

pub static_interface_acts : (a : Around) (x : Bytes) (k : Key) (d : Method) → method_of k.descriptor ≡ Some d → Acts a acts.InvokeStaticInterface x k [] None
unfolding act_on
static_interface_acts a x k d e ls = static_called a acts.InvokeStaticInterface (reference (tag_of_act acts.InvokeStaticInterface) x k.name k.descriptor) d ls e

pub virtual_acts : (a : Around) (x r : Bytes) (k : Key) (d : Method) → method_of k.descriptor ≡ Some d → Acts a acts.InvokeVirtual x k (ref r ∷ []) (Some r)
unfolding act_on
virtual_acts a x r k d e ls = called a acts.InvokeVirtual (reference (tag_of_act acts.InvokeVirtual) x k.name k.descriptor) r d ls e

pub interface_acts : (a : Around) (x r : Bytes) (k : Key) (d : Method) → method_of k.descriptor ≡ Some d → Acts a acts.InvokeInterface x k (ref r ∷ []) (Some r)
unfolding act_on
interface_acts a x r k d e ls = called a acts.InvokeInterface (reference (tag_of_act acts.InvokeInterface) x k.name k.descriptor) r d ls e

pub special_acts : (a : Around) (x r : Bytes) (k : Key) (d : Method) → method_of k.descriptor ≡ Some d → Acts a acts.InvokeSpecial x k (ref r ∷ []) (Some r)
unfolding act_on
special_acts a x r k d e ls = called a acts.InvokeSpecial (reference (tag_of_act acts.InvokeSpecial) x k.name k.descriptor) r d ls e

pub special_interface_acts : (a : Around) (x r : Bytes) (k : Key) (d : Method) → method_of k.descriptor ≡ Some d → Acts a acts.InvokeSpecialInterface x k (ref r ∷ []) (Some r)
unfolding act_on
special_interface_acts a x r k d e ls = called a acts.InvokeSpecialInterface (reference (tag_of_act acts.InvokeSpecialInterface) x k.name k.descriptor) r d ls e

-- ---- the whole body

abbrev last_steps : Act → Bytes → Key → List Step
last_steps what x k = steps.Member what x k ∷ (pops_of (given_by what k.descriptor) ++ steps.Return None ∷ [])

from_zeros : (c : ClassFacts) (u : Bytes) (what : Act) (x : Bytes) (k : Key) (below ls : List Kind) (r : Option Bytes) (pc : ℕ) → is_array_name x ≡ false → Acts (around_method c (use_method u)) what x k below r
    → typed_steps (around_method c (use_method u)) None pc (record { stack = below; locals = ls }) (zeros (taken_by what k.descriptor) ++ last_steps what x k) ≡ Some (act_item what x k r ∷ [])
from_zeros c u what x k below ls r pc b h =
    let a : Around = around_method c (use_method u) in
    let z = zeros_typed a None pc (record { stack = below; locals = ls }) (taken_by what k.descriptor) (last_steps what x k) in
    let p = pops_typed c u (z.0 + step_len (steps.Member what x k)) ls (given_by what k.descriptor) in
    z.1 ∙ member_typed a z.0 (record { stack = below ++ map pushed (taken_by what k.descriptor); locals = ls }) (record { stack = with_result (option_map kind_of (given_by what k.descriptor)) []; locals = ls }) what x k
    (act_item what x k r ∷ []) [] (pops_of (given_by what k.descriptor) ++ steps.Return None ∷ []) b (h ls) p

acts_callable : (what : Act) (x : Bytes) (k : Key) → is_callable what k ≡ true → list_all is_callable_step (act_steps what x k) ≡ true
acts_callable what x k h = by_act (is_act_on_static what) where
  pops : (o : Option TypeOf) → list_all is_callable_step (pops_of o ++ steps.Return None ∷ []) ≡ true
  pops None = refl
  pops (Some t) = one _ where
    one : (b : Bool) → list_all is_callable_step (cond b steps.Pop2 steps.Pop ∷ steps.Return None ∷ []) ≡ true
    one true = refl
    one false = refl

  from_member : list_all is_callable_step (last_steps what x k) ≡ true
  from_member = rw (h, pops (given_by what k.descriptor)) refl

  by_act : (b : Bool) → list_all is_callable_step (cond b [] (first_local ∷ []) ++ (zeros (taken_by what k.descriptor) ++ last_steps what x k)) ≡ true
  by_act true = zeros_callable (taken_by what k.descriptor) (last_steps what x k) from_member
  by_act false = zeros_callable (taken_by what k.descriptor) (last_steps what x k) from_member

abbrev after_receiver : Act → Bytes → Key → Bool → List Step
after_receiver what x k b = cond b [] (first_local ∷ []) ++ (zeros (taken_by what k.descriptor) ++ last_steps what x k)

-- a static act
pub static_body : (c : ClassFacts) (what : Act) (x : Bytes) (k : Key) → is_act_on_static what ≡ true → is_array_name x ≡ false → is_callable what k ≡ true → Acts (around_method c (use_method takes_nothing)) what x k [] None
    → IsBody c (use_method takes_nothing) (act_steps what x k) (act_item what x k None ∷ [])
unfolding typed_body
static_body c what x k s b n h =
    let a : Around = around_method c (use_method takes_nothing) in
    record {
      types = ap (λ (o : Option Kinds). o |>> λ y. typed_steps a y.result 0 (start_of a y.params) (act_steps what x k)) init_kinds
          ∙ ap (λ (t : Bool). typed_steps a None 0 (started []) (after_receiver what x k t)) s ∙ from_zeros c takes_nothing what x k [] [] None 0 b h;
      callable = acts_callable what x k n;
    }

loaded_receiver : (c : ClassFacts) (u r : Bytes) (ss : List Step) → typed_steps (around_method c (use_method u)) None 0 (started (ref r ∷ [])) (first_local ∷ ss)
    ≡ (typed_steps (around_method c (use_method u)) None (0 + step_len first_local) (record { stack = ref r ∷ []; locals = ref r ∷ [] }) ss |>> λ others. Some ([] ++ others))
unfolding typed_steps run load
loaded_receiver c u r ss = refl

-- an act with a receiver
pub receiver_body : (c : ClassFacts) (what : Act) (x r : Bytes) (k : Key) → is_act_on_static what ≡ false → spells_class_name r ≡ true → is_array_name x ≡ false → is_callable what k ≡ true → Acts (around_method c (use_method (takes r))) what x k (ref r ∷ []) (Some r)
    → IsBody c (use_method (takes r)) (act_steps what x k) (act_item what x k (Some r) ∷ [])
unfolding typed_body
receiver_body c what x r k s i b n h =
    let a : Around = around_method c (use_method (takes r)) in
    let rest : List Step = zeros (taken_by what k.descriptor) ++ last_steps what x k in
    record {
      types = ap (λ (o : Option Kinds). o |>> λ y. typed_steps a y.result 0 (start_of a y.params) (act_steps what x k)) (takes_kinds r i)
          ∙ ap (λ (t : Bool). typed_steps a None 0 (started (ref r ∷ [])) (after_receiver what x k t)) s
          ∙ loaded_receiver c (takes r) r rest
          ∙ no_items (typed_steps a None (0 + step_len first_local) (record { stack = ref r ∷ []; locals = ref r ∷ [] }) rest)
          ∙ from_zeros c (takes r) what x k (ref r ∷ []) (ref r ∷ []) (Some r) (0 + step_len first_local) b h;
      callable = acts_callable what x k n;
    }
