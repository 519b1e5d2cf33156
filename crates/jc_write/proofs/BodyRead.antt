-- The steps of a body that types are read as they are, where the pool has what they need.
use Rattle.std.proofs.Common.{◌≡◌, ℕ, ◌+◌, ◌<◌, ◌≤◌, Bool, true, false, cond, List, [], ◌∷◌, length, Option, Some, None, refl, sym, subst, ◌∙◌, arith}
use Rattle.std.specs.List.{list_all}
use Rattle.std.specs.Prelude.{is_some, not}
use Rattle.std.proofs.lemmas.Bool.{and_parts}
use Rattle.jc_desc.specs.Names.{is_init_name}
use Rattle.jc_facts.specs.declared.act.Act.{Act}
use Rattle.jc_facts.specs.declared.act.Act.TheVariants as acts
use Rattle.jc_facts.specs.declared.blueprint.Step.{Step}
use Rattle.jc_facts.specs.declared.blueprint.Step.TheVariants as steps
use Rattle.jc_facts.specs.declared.client.Item.{Item}
use Rattle.jc_facts.specs.declared.key.Key.{Key}
use Rattle.jc_facts.specs.Names.{Bytes}
use Rattle.jc_facts.specs.file.Attributes.{is_array_name, ◌|>>◌}
use Rattle.jc_facts.specs.written.PoolEntries.{PoolEntry, class, member, has, is_good, use_is_good}
use Rattle.jc_facts.specs.written.Bodies.{tag_of_act, init_name, number_of_kind, steps_needs}
use Rattle.jc_facts.specs.code.Code.{Around}
use Rattle.jc_facts.specs.code.Typing.{Kind, Frame, Instruction, loads, run}
use Rattle.jc_facts.specs.written.TypedSteps.{instruction_of, typed_steps, step_len}
use Rattle.jc_facts.specs.written.TypedItems.{is_callable, is_callable_step}
use Rattle.jc_write.proofs.Slots.{below, good_use}
use Rattle.jc_write.proofs.Linked.{Answers, class_answer, member_answer}
use Rattle.jc_write.proofs.Decoded.{is_used, is_named}
use Rattle.jc_write.proofs.CodeTyped.{Ran, Rest, joined_items, next_steps, AreRead}
use Rattle.jc_write.proofs.StepRead.{null_read, zero_read, dup_read, pop_read, pop_two_read, load_read, new_read, cast_read, construct_read, member_read, IsAnswered}
use Rattle.jc_write.proofs.LocalsKept.{no_store, ran_keeps, loaded_place}

-- ---- what a step that types does

pub record IsRun (a : Around) (due : Option Kind) (pc k : ℕ) (f : Frame) (s : Step) (ss : List Step) : Type 0 where
  pub instruction : Instruction
  pub instruction_is : instruction_of s ≡ Some instruction
  pub one : Ran
  pub ran : run a pc instruction f ≡ Some one
  pub more : is_some (typed_steps a due k one.1 ss) ≡ true

abbrev pub Later : Around → Option Kind → ℕ → List Step → ℕ → Frame → Instruction → Rest
Later a due k ss pc f i = run a pc i f |>> next_steps a due k ss

joined_some : (items : List Item) (o : Rest) → is_some (joined_items items o) ≡ true → is_some o ≡ true
joined_some items None h = absurd cc
joined_some items (Some x) h = refl

pub is_run : (a : Around) (due : Option Kind) (pc k : ℕ) (f : Frame) (s : Step) (ss : List Step) → is_some (instruction_of s |>> Later a due k ss pc f) ≡ true → IsRun a due pc k f s ss
is_run a due pc k f s ss h = by_instruction (instruction_of s) refl h where
  by_run : (i : Instruction) → instruction_of s ≡ Some i → (o : Option Ran) → run a pc i f ≡ o → is_some (o |>> next_steps a due k ss) ≡ true → IsRun a due pc k f s ss
  by_run i d None e h = absurd cc
  by_run i d (Some one) e h = record { instruction = i; instruction_is = d; one = one; ran = e; more = joined_some one.0 (typed_steps a due k one.1 ss) h }

  by_instruction : (o : Option Instruction) → instruction_of s ≡ o → is_some (o |>> Later a due k ss pc f) ≡ true → IsRun a due pc k f s ss
  by_instruction None d h = absurd cc
  by_instruction (Some i) d h = by_run i d (run a pc i f) refl h

abbrev Goes : Around → List PoolEntry → Option Kind → List Step → Type 0
Goes a pool due ss = (pc : ℕ) (f : Frame) → length f.locals ≤ 255 → is_some (typed_steps a due pc f ss) ≡ true → AreRead a pool ss

behind_it : (a : Around) (pool : List PoolEntry) (due : Option Kind) (s : Step) (ss : List Step) (pc : ℕ) (f : Frame) → length f.locals ≤ 255 → is_some (instruction_of s |>> Later a due (pc + step_len s) ss pc f) ≡ true → Goes a pool due ss → AreRead a pool ss
behind_it a pool due s ss pc f l h goes =
    let r = is_run a due pc (pc + step_len s) f s ss h in
    let e = ran_keeps a pc r.instruction f r.one (no_store s r.instruction r.instruction_is) r.ran in
    goes (pc + step_len s) r.one.1 (subst (λ (n : ℕ). n ≤ 255) (sym e) l) r.more

-- ---- what the kinds of steps need

loads_below : (a : Around) (due : Option Kind) (pc k : ℕ) (f : Frame) (n i : ℕ) (s : Step) (ss : List Step) → instruction_of s ≡ Some (loads n i) → IsRun a due pc k f s ss → i < length f.locals
loads_below a due pc k f n i s ss d r =
    let q : r.instruction ≡ loads n i = (let e : Some r.instruction ≡ Some (loads n i) = sym r.instruction_is ∙ d in cc) in
    loaded_place a pc n i f r.one (subst (λ (j : Instruction). run a pc j f ≡ Some r.one) q r.ran)

not_array : (b : Bool) (i j : Instruction) → cond b None (Some i) ≡ Some j → b ≡ false
not_array true i j e = absurd cc
not_array false i j e = refl

used_act : (w : Act) (n d : Bytes) → use_is_good (tag_of_act w) n d ≡ true → is_used w ≡ true
used_act acts.GetStatic n d h = refl
used_act acts.PutStatic n d h = refl
used_act acts.GetField n d h = refl
used_act acts.PutField n d h = refl
used_act acts.InvokeVirtual n d h = refl
used_act acts.InvokeSpecial n d h = refl
used_act acts.InvokeSpecialInterface n d h = refl
used_act acts.InvokeStatic n d h = refl
used_act acts.InvokeStaticInterface n d h = refl
used_act acts.InvokeInterface n d h = refl
used_act _ n d h = absurd (let q : false ≡ true = h in cc)

named_act : (w : Act) (k : Key) → is_callable w k ≡ true → is_named w k.name ≡ true
named_act acts.GetStatic k h = refl
named_act acts.PutStatic k h = refl
named_act acts.GetField k h = refl
named_act acts.PutField k h = refl
named_act acts.InvokeInterface k h = (and_parts (not (is_init_name k.name)) _ h).0
named_act w k h = h

-- ---- all steps

pub steps_read : (a : Around) (pool : List PoolEntry) → Answers pool a.pool → (due : Option Kind) (ss : List Step) → list_all (has pool) (steps_needs ss) ≡ true → list_all is_good (steps_needs ss) ≡ true → list_all is_callable_step ss ≡ true → Goes a pool due ss
unfolding typed_steps
steps_read a pool w due [] n g c pc f l h = tt
steps_read a pool w due (steps.Return r ∷ []) n g c pc f l h = tt
steps_read a pool w due (steps.Return r ∷ (s ∷ ss)) n g c pc f l h = absurd cc
steps_read a pool w due (steps.Null ∷ ss) n g c pc f l h = (null_read a pool, behind_it a pool due steps.Null ss pc f l h (steps_read a pool w due ss n g c))
steps_read a pool w due (steps.Zero p ∷ ss) n g c pc f l h = (zero_read a pool p, behind_it a pool due (steps.Zero p) ss pc f l h (steps_read a pool w due ss n g c))
steps_read a pool w due (steps.Dup ∷ ss) n g c pc f l h = (dup_read a pool, behind_it a pool due steps.Dup ss pc f l h (steps_read a pool w due ss n g c))
steps_read a pool w due (steps.Pop ∷ ss) n g c pc f l h = (pop_read a pool, behind_it a pool due steps.Pop ss pc f l h (steps_read a pool w due ss n g c))
steps_read a pool w due (steps.Pop2 ∷ ss) n g c pc f l h = (pop_two_read a pool, behind_it a pool due steps.Pop2 ss pc f l h (steps_read a pool w due ss n g c))
steps_read a pool w due (steps.Load s i ∷ ss) n g c pc f l h =
    let q = loads_below a due pc (pc + step_len (steps.Load s i)) f (number_of_kind s) i (steps.Load s i) ss refl (is_run a due pc (pc + step_len (steps.Load s i)) f (steps.Load s i) ss h) in
    (load_read a pool s i (omega (arith, q, l)), behind_it a pool due (steps.Load s i) ss pc f l h (steps_read a pool w due ss n g c))
steps_read a pool w due (steps.New t ∷ ss) n g c pc f l h =
    let m = and_parts (has pool (class t)) (list_all (has pool) (steps_needs ss)) n in
    let k = and_parts (is_good (class t)) (list_all is_good (steps_needs ss)) g in
    (new_read a pool t (class_answer pool a.pool t w m.0) (below pool (class t) w.hold.few m.0), behind_it a pool due (steps.New t) ss pc f l h (steps_read a pool w due ss m.1 k.1 c))
steps_read a pool w due (steps.Cast t ∷ ss) n g c pc f l h =
    let m = and_parts (has pool (class t)) (list_all (has pool) (steps_needs ss)) n in
    let k = and_parts (is_good (class t)) (list_all is_good (steps_needs ss)) g in
    (cast_read a pool t (class_answer pool a.pool t w m.0) (below pool (class t) w.hold.few m.0), behind_it a pool due (steps.Cast t) ss pc f l h (steps_read a pool w due ss m.1 k.1 c))
steps_read a pool w due (steps.Member v t key ∷ ss) n g c pc f l h =
    let e : PoolEntry = member (tag_of_act v) t key.name key.descriptor in
    let m = and_parts (has pool e) (list_all (has pool) (steps_needs ss)) n in
    let k = and_parts (is_good e) (list_all is_good (steps_needs ss)) g in
    let d = and_parts (is_callable v key) (list_all is_callable_step ss) c in
    let u = good_use (tag_of_act v) t key.name key.descriptor k.0 in
    let r = is_run a due pc (pc + step_len (steps.Member v t key)) f (steps.Member v t key) ss h in
    let answered : IsAnswered a pool v t key = record {
      ref_is = member_answer pool a.pool (tag_of_act v) t key.name key.descriptor w m.0 u;
      small = below pool e w.hold.few m.0;
      no_array = not_array (is_array_name t) _ r.instruction r.instruction_is;
      callable = named_act v key d.0;
    } in
    (member_read a pool v t key (used_act v key.name key.descriptor u) answered, behind_it a pool due (steps.Member v t key) ss pc f l h (steps_read a pool w due ss m.1 k.1 d.1))
steps_read a pool w due (steps.Construct t x ∷ ss) n g c pc f l h =
    let e : PoolEntry = member 10 t init_name x in
    let m = and_parts (has pool e) (list_all (has pool) (steps_needs ss)) n in
    let k = and_parts (is_good e) (list_all is_good (steps_needs ss)) g in
    let r = is_run a due pc (pc + step_len (steps.Construct t x)) f (steps.Construct t x) ss h in (
      construct_read a pool t x (member_answer pool a.pool 10 t init_name x w m.0 (good_use 10 t init_name x k.0)) (not_array (is_array_name t) _ r.instruction r.instruction_is) (below pool e w.hold.few m.0),
      behind_it a pool due (steps.Construct t x) ss pc f l h (steps_read a pool w due ss m.1 k.1 c),
    )
