-- The largest number of places on the stack of a body that types is that of its typing.
use Rattle.std.proofs.Common.{◌≡◌, ℕ, ◌+◌, true, ◌&&◌, List, [], ◌∷◌, ◌++◌, length, Option, Some, None, refl, sym, ap, ◌∙◌, max}
use Rattle.std.specs.List.{list_all}
use Rattle.std.specs.Prelude.{is_some}
use Rattle.std.proofs.lemmas.Bool.{and_parts, leb-true}
use Rattle.std.proofs.lemmas.List.Folds.{list_all-append}
use Rattle.jc_facts.specs.declared.blueprint.Blueprint.{Blueprint}
use Rattle.jc_facts.specs.declared.blueprint.Body.{Body}
use Rattle.jc_facts.specs.declared.blueprint.Step.{Step}
use Rattle.jc_facts.specs.declared.blueprint.Step.TheVariants as steps
use Rattle.jc_facts.specs.declared.class_facts.ClassFacts.{ClassFacts}
use Rattle.jc_facts.specs.declared.class_facts.Member.{Member}
use Rattle.jc_facts.specs.Names.{Bytes}
use Rattle.jc_facts.specs.file.Attributes.{◌|>>◌}
use Rattle.jc_facts.specs.written.PoolEntries.{PoolEntry, text, class, pair, member, has, fits, collected, all_parts}
use Rattle.jc_facts.specs.written.Bodies.{tag_of_act, init_name, steps_needs, most_from, places_at_most, places_after_step}
use Rattle.jc_facts.specs.written.Written.{code_name, body_needs, methods_needs, needs_of, fits_whole}
use Rattle.jc_facts.specs.code.Code.{Around}
use Rattle.jc_facts.specs.code.Typing.{Kind, Frame, Kinds, Instruction, method_kinds, start_of, run}
use Rattle.jc_facts.specs.written.TypedSteps.{instruction_of, typed_steps, step_len}
use Rattle.jc_facts.specs.written.TypedItems.{around_method, typed_body, stack_places, most_behind, typed_most, most_of_kinds, is_callable_step, body_typed, bodies_typed, IsWritable, IsMost, AreMost}
use Rattle.jc_write.proofs.Collected.{has_parts}
use Rattle.jc_write.proofs.Linked.{has_passes}
use Rattle.jc_write.proofs.GoodNeeds.{has_needs}
use Rattle.jc_write.proofs.WholeFile.{pool_fits}
use Rattle.jc_write.proofs.CodeTyped.{Ran}
use Rattle.jc_write.proofs.BodyRead.{is_run, Later}
use Rattle.jc_write.proofs.StackMoves.{IsShort, HasShort, step_moves}

-- ---- one body

abbrev pub AllShort : List Step → Type 0
AllShort [] = Unit {0}
AllShort (s ∷ ss) = HasShort s × AllShort ss

abbrev Most : Around → Option Kind → List Step → Type 0
Most a due ss = (pc : ℕ) (f : Frame) → is_some (typed_steps a due pc f ss) ≡ true → typed_most a pc f ss ≡ most_from (stack_places f) ss

run_is : (a : Around) (pc : ℕ) (f : Frame) (o : Option Instruction) (i : Instruction) (one : Ran) → o ≡ Some i → run a pc i f ≡ Some one → (o |>> λ j. run a pc j f) ≡ Some one
run_is a pc f o i one d e = ap (λ (x : Option Instruction). x |>> λ j. run a pc j f) d ∙ e

behind_most : (a : Around) (due : Option Kind) (pc : ℕ) (f : Frame) (s : Step) (ss : List Step) → HasShort s → is_some (instruction_of s |>> Later a due (pc + step_len s) ss pc f) ≡ true → Most a due ss
    → typed_most a pc f (s ∷ ss) ≡ max (stack_places f) (most_from (places_after_step s (stack_places f)) ss)
unfolding typed_most
behind_most a due pc f s ss h t ih =
    let r = is_run a due pc (pc + step_len s) f s ss t in
    let e = run_is a pc f (instruction_of s) r.instruction r.one r.instruction_is r.ran in
    let m = (step_moves a pc f s h).holds r.one e in
    ap (λ (o : Option Ran). max (stack_places f) (most_behind o (λ g. typed_most a (pc + step_len s) g ss))) e
    ∙ ap (λ (n : ℕ). max (stack_places f) n) (ih (pc + step_len s) r.one.1 r.more ∙ ap (λ (n : ℕ). most_from n ss) m)

most_is : (a : Around) (due : Option Kind) (ss : List Step) → AllShort ss → Most a due ss
unfolding typed_steps typed_most
most_is a due [] h pc f t = refl
most_is a due (steps.Return r ∷ []) h pc f t = refl
most_is a due (steps.Return r ∷ (s ∷ ss)) h pc f t = absurd cc
most_is a due (s ∷ ss) h pc f t = behind_most a due pc f s ss h.0 t (most_is a due ss h.1)

body_most : (c : ClassFacts) (m : Member) (body : Body) → AllShort body.steps → is_some (typed_body c m body) ≡ true → places_at_most body.steps ≡ most_of_kinds c m body (method_kinds m.descriptor)
unfolding typed_body
body_most c m body h t = by_kinds (method_kinds m.descriptor) t where
  by_kinds : (o : Option Kinds) → is_some (o |>> λ k. typed_steps (around_method c m) k.result 0 (start_of (around_method c m) k.params) body.steps) ≡ true → places_at_most body.steps ≡ most_of_kinds c m body o
  by_kinds None e = absurd cc
  by_kinds (Some k) e = sym (most_is (around_method c m) k.result body.steps h 0 (start_of (around_method c m) k.params) e)

-- ---- the descriptors of a written pool are short

descriptor_short : (pool : List PoolEntry) (t : ℕ) (c n d : Bytes) → list_all (has_parts pool) pool ≡ true → list_all fits pool ≡ true → has pool (member t c n d) ≡ true → IsShort d
descriptor_short pool t c n d closed f h =
    let parts = has_passes (has_parts pool) pool (member t c n d) closed h in
    let q = and_parts (has pool (text c) && has pool (class c)) ((has pool (text n) && has pool (text d)) && has pool (pair n d)) parts in
    let s = and_parts (has pool (text n) && has pool (text d)) (has pool (pair n d)) q.1 in
    let u = and_parts (has pool (text n)) (has pool (text d)) s.0 in
    leb-true (length d) 65535 (has_passes fits pool (text d) f u.1)

all_short : (pool : List PoolEntry) (ss : List Step) → list_all (has_parts pool) pool ≡ true → list_all fits pool ≡ true → list_all (has pool) (steps_needs ss) ≡ true → AllShort ss
all_short pool [] c f h = tt
all_short pool (steps.New t ∷ ss) c f h = (tt, all_short pool ss c f (and_parts (has pool (class t)) (list_all (has pool) (steps_needs ss)) h).1)
all_short pool (steps.Cast t ∷ ss) c f h = (tt, all_short pool ss c f (and_parts (has pool (class t)) (list_all (has pool) (steps_needs ss)) h).1)
all_short pool (steps.Member w t k ∷ ss) c f h =
    let p = and_parts (has pool (member (tag_of_act w) t k.name k.descriptor)) (list_all (has pool) (steps_needs ss)) h in
    (descriptor_short pool (tag_of_act w) t k.name k.descriptor c f p.0, all_short pool ss c f p.1)
all_short pool (steps.Construct t d ∷ ss) c f h =
    let p = and_parts (has pool (member 10 t init_name d)) (list_all (has pool) (steps_needs ss)) h in
    (descriptor_short pool 10 t init_name d c f p.0, all_short pool ss c f p.1)
all_short pool (s ∷ ss) c f h = (tt, all_short pool ss c f h)

-- ---- all bodies

bodies_most : (pool : List PoolEntry) (c : ClassFacts) (ms : List Member) (bs : List (Option Body)) → list_all (has_parts pool) pool ≡ true → list_all fits pool ≡ true → list_all (has pool) (methods_needs ms bs) ≡ true → bodies_typed c ms bs ≡ true → AreMost c ms bs
bodies_most pool c [] bs k f h t = tt
bodies_most pool c (m ∷ ms) [] k f h t = tt
bodies_most pool c (m ∷ ms) (b ∷ bs) k f h t =
    let a1 = and_parts (has pool (text m.name)) (list_all (has pool) (text m.descriptor ∷ (body_needs b ++ methods_needs ms bs))) h in
    let a2 = and_parts (has pool (text m.descriptor)) (list_all (has pool) (body_needs b ++ methods_needs ms bs)) a1.1 in
    let e = and_parts (list_all (has pool) (body_needs b)) (list_all (has pool) (methods_needs ms bs)) (sym (list_all-append (has pool) (body_needs b) (methods_needs ms bs)) ∙ a2.1) in
    let y = and_parts (body_typed c m b) (bodies_typed c ms bs) t in
    (one m b e.0 y.0, bodies_most pool c ms bs k f e.1 y.1) where
      one : (m : Member) (b : Option Body) → list_all (has pool) (body_needs b) ≡ true → body_typed c m b ≡ true → IsMost c m b
      one m None h t = tt
      one m (Some body) h t =
          let n = and_parts (has pool (text code_name)) (list_all (has pool) (steps_needs body.steps)) h in
          body_most c m body (all_short pool body.steps k f n.1) (and_parts (is_some (typed_body c m body)) (list_all is_callable_step body.steps) t).0

pub written_most : (b : Blueprint) → IsWritable b → fits_whole b ≡ true → AreMost b.facts b.facts.methods b.bodies
written_most b w f =
    let pool : List PoolEntry = collected [] (all_parts (needs_of b)) in
    let p = pool_fits b w.formed f in
    bodies_most pool b.facts b.facts.methods b.bodies p.serves.closed p.texts_fit (has_needs pool b p.serves.there).methods w.typed
