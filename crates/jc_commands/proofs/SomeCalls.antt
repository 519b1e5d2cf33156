-- Two sides of one run have a list of the lines on calls: what stands on their subjects, in order. There is one.
--     some_calls      there is a list
--     calls_are_one      there is no other
--     calls_on, calls_one, calls_few      what is reported of it
use Rattle.std.proofs.Common.{◌≡◌, ◌≤◌, ◌∙◌, ◌==◌, ◌⊎◌, inl, inr, Bool, true, false, cond, not, ◌&&◌, ℕ, List, [], ◌∷◌, ◌++◌, length, Option, Some, None, refl, sym, ap, subst, is_some, is_none}
use Rattle.std.specs.Prelude.{IsTrue}
use Rattle.std.specs.List.{Contains, filter_map, list_any}
use Rattle.std.specs.Cmp.{IsTotalOrder, then_total, on_total, first_so, second_so}
use Rattle.std.specs.Cmp.Lexicographic.{nat_list_cmp_total, options_total}
use Rattle.std.proofs.lemmas.Bool.{or_cases, eqb-true}
use Rattle.std.proofs.lemmas.Cmp.{nat_cmp_total}
use Rattle.std.proofs.lemmas.List.Elements.{Contains-append_left, Contains-append_right}
use Rattle.jc_facts.specs.declared.act.Act.{Act}
use Rattle.jc_call_kinds.specs.declared.call_line.CallKind.{CallKind}
use Rattle.jc_call_kinds.specs.declared.call_line.CallKind.TheVariants.{Reference, Access, Joined, Constants}
use Rattle.jc_call_kinds.specs.declared.call_line.CallLine.{CallLine}
use Rattle.jc_facts.specs.declared.class_facts.ClassFacts.{ClassFacts}
use Rattle.jc_facts.specs.declared.key.Key.{Key}
use Rattle.jc_facts.specs.Exactly.{HasExactly}
use Rattle.jc_facts.specs.KeyOrder.{key_total}
use Rattle.jc_facts.specs.Names.{Bytes}
use Rattle.jc_facts.specs.world.Hierarchy.{superinterfaces}
use Rattle.jc_facts.specs.world.Inheritance.{is_inheritable, is_final_in_chain, offers}
use Rattle.jc_facts.specs.world.Loading.{load_fault}
use Rattle.jc_facts.specs.world.World.{World, classes}
use Rattle.jc_promises.specs.Pairs.{IsPair}
use Rattle.jc_promises.specs.rule.Bases.{became_class, is_base_class, is_class_closed, is_class_usable, is_extendable, is_kept, is_key_of_method, is_steady}
use Rattle.jc_promises.specs.rule.Findings.{Subject}
use Rattle.jc_promises.specs.rule.OpenActs.{act_fault, first_seat, method_acts}
use Rattle.jc_calls.specs.Access.{access_added, is_called_above}
use Rattle.jc_calls.specs.Constants.{constants_added}
use Rattle.jc_calls.specs.Handles.{are_referable}
use Rattle.jc_calls.specs.Joins.{join_lost}
use Rattle.jc_calls.specs.Lines.{is_due, place_of, line_order, LineStands, AreLines}
use Rattle.jc_calls.specs.References.{are_of_open, is_handle_lost, is_open_to_some, is_told, reference_lost}
use Rattle.jc_calls.proofs.Parted.{IsParted, parted}
use Rattle.jc_facts.proofs.InOrder.{exact_same}
use Rattle.jc_lemmas.proofs.Bools.{second_of_five}
use Rattle.jc_lemmas.proofs.Listed.{EachOf-map}
use Rattle.jc_lemmas.proofs.Lists.{any_weaker}
use Rattle.jc_lemmas.proofs.Options.{none_where}
use Rattle.jc_sound.proofs.AboveKeys.{test_declares}
use Rattle.jc_sound.proofs.ExactLists.{exact_list}
use Rattle.jc_sound.proofs.KeyLaws.{open_above}
use Rattle.jc_sound.proofs.OpenActs.{first_seat-passes}
use Rattle.jc_sound.proofs.Standing.{usable_parts}
use Rattle.jc_sound.proofs.VerdictLaw.{exactly_one}
use Rattle.jc_sound.specs.Findings.{declares_key}
use Rattle.jc_sides.proofs.Subjects.{subject_order}
use Rattle.jc_worlds.proofs.Loaded.{loads-found}
use Rattle.jc_worlds.specs.Hierarchy.{above}
use Rattle.jc_commands.specs.CallsPart.{AreAskedCalls}
use Rattle.jc_commands.proofs.Declarations.{above_in, super_all, some_key}
use Rattle.jc_commands.proofs.SomeVerdict.{found_name, of_kept, usable_name}
use Rattle.jc_commands.proofs.Subjects.{on_subject, rules, is_rule, none_or, names, keys, subjects, covered}
use Rattle.jc_releases.specs.declared.limits.TheConstants.{MAX_CALLS}

-- ---- lines by subject

abbrev call_subject : CallLine → Subject
call_subject l = on_subject (place_of l.kind) l.«class» l.key l.target

call_ordered : (l m : CallLine) → subject_order (call_subject l) (call_subject m) ≡ line_order l m
call_ordered l m = refl

abbrev line_of : CallKind → Bytes → Option Key → Option Bytes → CallLine
line_of kind x k t = record { kind = kind; «class» = x; key = k; target = t }

module _ (O N : World) where
  abbrev due_line : CallKind → Bytes → Option Key → Option Bytes → Option CallLine
  due_line kind x k t = cond (is_due O N kind x k t) (Some (line_of kind x k t)) None

  abbrev due_on : Subject → CallKind → Option CallLine
  due_on s kind = due_line kind s.«class» s.key s.target

  abbrev call_here : Subject → Option CallLine
  call_here s = cond (s.rule == 0) (due_on s Reference) (cond (s.rule == 1) (due_on s Access) (cond (s.rule == 2) (due_on s Joined) (cond (s.rule == 3) (due_on s Constants) None)))

  call_is_on : (s : Subject) (l : CallLine) → call_here s ≡ Some l → call_subject l ≡ s
  call_is_on s l e = by_rule (s.rule == 0) (s.rule == 1) (s.rule == 2) (s.rule == 3) refl refl refl refl e
    where
      made : (kind : CallKind) → s.rule ≡ place_of kind → (b : Bool) → cond b (Some (line_of kind s.«class» s.key s.target)) None ≡ Some l → call_subject l ≡ s
      made kind p true q =
          let is : line_of kind s.«class» s.key s.target ≡ l = cc in
          ap call_subject (sym is) ∙ sym (ap (λ (r : ℕ). on_subject r s.«class» s.key s.target) p)
      made kind p false q = absurd (let clash : None ≡ Some l = q in cc)

      by_rule : (a b c d : Bool) → (s.rule == 0) ≡ a → (s.rule == 1) ≡ b → (s.rule == 2) ≡ c → (s.rule == 3) ≡ d
          → cond a (due_on s Reference) (cond b (due_on s Access) (cond c (due_on s Joined) (cond d (due_on s Constants) None))) ≡ Some l → call_subject l ≡ s
      by_rule true b c d p q r t w = made Reference (eqb-true s.rule 0 p) (is_due O N Reference s.«class» s.key s.target) w
      by_rule false true c d p q r t w = made Access (eqb-true s.rule 1 q) (is_due O N Access s.«class» s.key s.target) w
      by_rule false false true d p q r t w = made Joined (eqb-true s.rule 2 r) (is_due O N Joined s.«class» s.key s.target) w
      by_rule false false false true p q r t w = made Constants (eqb-true s.rule 3 t) (is_due O N Constants s.«class» s.key s.target) w
      by_rule false false false false p q r t w = absurd (let clash : None ≡ Some l = w in cc)

  here_of : (kind : CallKind) (x : Bytes) (k : Option Key) (t : Option Bytes) → call_here (on_subject (place_of kind) x k t) ≡ due_line kind x k t
  here_of Reference x k t = refl
  here_of Access x k t = refl
  here_of Joined x k t = refl
  here_of Constants x k t = refl

  call_stands : (l : CallLine) → call_here (call_subject l) ≡ Some l → LineStands O N l
  call_stands l e = go (is_due O N l.kind l.«class» l.key l.target) (sym (here_of l.kind l.«class» l.key l.target) ∙ e)
    where
      go : (b : Bool) → cond b (Some (line_of l.kind l.«class» l.key l.target)) None ≡ Some l → b ≡ true
      go true q = refl
      go false q = absurd (let clash : None ≡ Some l = q in cc)

  call_found : (l : CallLine) → LineStands O N l → call_here (call_subject l) ≡ Some l
  call_found l h = here_of l.kind l.«class» l.key l.target ∙ ap (λ (b : Bool). cond b (Some (line_of l.kind l.«class» l.key l.target)) None) h

  -- a steady class was usable
  steady_usable : (x : Bytes) → is_steady O N x ≡ true → is_class_usable O x ≡ true
  unfolding is_steady
  steady_usable x h = of_kept O N x (first_so (is_kept O N x) (not (became_class O N x)) h)

  base_usable : (x : Bytes) → is_base_class O N x ≡ true → is_class_usable O x ≡ true
  unfolding is_base_class
  base_usable x h = steady_usable x (second_so (is_extendable O N x) (is_steady O N x) (first_so (is_extendable O N x && is_steady O N x) (not (is_class_closed O N x)) h))

  module _ (pair : IsPair O N) where
    of_old : (c : ClassFacts) → Contains (classes O) c → Contains (classes O ++ classes N) c
    of_old c m = Contains-append_left (classes O) (classes N) c m

    of_new : (c : ClassFacts) → Contains (classes N) c → Contains (classes O ++ classes N) c
    of_new c m = Contains-append_right (classes O) (classes N) c m

    -- an act that is open to some seat finds its key above the class
    seat_finds : (x : Bytes) (k : Key) → load_fault O x ≡ None → (what : Act) → is_open_to_some O N x k what ≡ true → list_any (declares_key k) (above O x) ≡ true
    seat_finds x k loaded what h = go (first_seat O N test) refl h
      where
        test : Bytes → Bool
        test a = is_none (act_fault O a x k what)

        go : (o : Option Bytes) → first_seat O N test ≡ o → is_some o ≡ true → list_any (declares_key k) (above O x) ≡ true
        go (Some a) e q = open_above O N pair x a k what loaded (none_where (act_fault O a x k what) (first_seat-passes O N test a e))
        go None e q = absurd (cc)

    lost_finds : (x : Bytes) (k : Key) → load_fault O x ≡ None → (acts : List Act) → list_any (is_handle_lost O N x k) acts ≡ true → list_any (declares_key k) (above O x) ≡ true
    lost_finds x k loaded [] h = absurd (cc)
    lost_finds x k loaded (what ∷ rest) h = go (or_cases (is_handle_lost O N x k what) (list_any (is_handle_lost O N x k) rest) h) (lost_finds x k loaded rest)
      where
        go : (is_handle_lost O N x k what ≡ true) ⊎ (list_any (is_handle_lost O N x k) rest ≡ true) → (list_any (is_handle_lost O N x k) rest ≡ true → list_any (declares_key k) (above O x) ≡ true)
            → list_any (declares_key k) (above O x) ≡ true
        go (inl p) r =
            seat_finds x k loaded what
            (first_so (is_open_to_some O N x k what) (are_referable O what x k)
            (first_so (is_open_to_some O N x k what && are_referable O what x k) (are_of_open O what x k)
            (first_so (is_open_to_some O N x k what && are_referable O what x k && are_of_open O what x k) (not (are_of_open N what x k)) p)))
        go (inr p) r = r p

    -- the parts of a subject, where the class is there and the key declared
    on_key : (rule : ℕ) (x : Bytes) (k : Key) → Contains rules rule → is_class_usable O x ≡ true → Contains (keys O N) k → Contains (subjects O N).items (on_subject rule x (Some k) None)
    on_key rule x k r usable there = covered O N (on_subject rule x (Some k) None) r (usable_name O N pair x usable)
        (none_or (keys O N) (Some k) (λ j is. let one : k ≡ j = cc in subst (Contains (keys O N)) one there))
        (none_or (names O N) None (λ t is. absurd (let clash : None ≡ Some t = is in cc)))

    reference_covered : (x : Bytes) (k : Key) → reference_lost O N x k ≡ true → Contains (subjects O N).items (on_subject 0 x (Some k) None)
    unfolding reference_lost
    reference_covered x k h =
        let parts = first_so (is_key_of_method k && is_steady O N x && list_any (is_handle_lost O N x k) method_acts) (not (is_told O N x k)) h in
        let lost = second_so (is_key_of_method k && is_steady O N x) (list_any (is_handle_lost O N x k) method_acts) parts in
        let usable = steady_usable x (second_so (is_key_of_method k) (is_steady O N x) (first_so (is_key_of_method k && is_steady O N x) (list_any (is_handle_lost O N x k) method_acts) parts)) in
        on_key 0 x k (is_rule 0 refl) usable
        (some_key k (classes O ++ classes N) (above O x) (EachOf-map of_old (above O x) (above_in O x)) (lost_finds x k (usable_parts O x usable).loaded method_acts lost))

    access_covered : (x : Bytes) (k : Key) → access_added O N x k ≡ true → Contains (subjects O N).items (on_subject 1 x (Some k) None)
    unfolding access_added
    access_covered x k h =
        let called : is_called_above N x k ≡ true =
        second_so (is_key_of_method k && is_base_class O N x && _) (is_called_above N x k)
        (first_so (is_key_of_method k && is_base_class O N x && _ && is_called_above N x k) (not (is_final_in_chain N x k)) h) in
        on_key 1 x k (is_rule 1 refl)
        (base_usable x (second_of_five (is_key_of_method k) (is_base_class O N x) _ (is_called_above N x k) (not (is_final_in_chain N x k)) h))
        (some_key k (classes O ++ classes N) (superinterfaces N x) (EachOf-map of_new (superinterfaces N x) (super_all N x))
        (any_weaker (offers k) (declares_key k) (test_declares k is_inheritable) (superinterfaces N x) called))

    constants_covered : (x : Bytes) → constants_added O N x ≡ true → Contains (subjects O N).items (on_subject 3 x None None)
    unfolding constants_added
    constants_covered x h =
        covered O N (on_subject 3 x None None) (is_rule 3 refl)
        (usable_name O N pair x (steady_usable x (first_so (is_steady O N x) _ h)))
        (none_or (keys O N) None (λ k is. absurd (let clash : None ≡ Some k = is in cc)))
        (none_or (names O N) None (λ t is. absurd (let clash : None ≡ Some t = is in cc)))

    -- both classes of a join are of the old side
    joined_covered : (x t : Bytes) → join_lost O N x t ≡ true → Contains (subjects O N).items (on_subject 2 x None (Some t))
    joined_covered x t h =
        let p : IsParted O N x t = parted O N x t h in
        covered O N (on_subject 2 x None (Some t)) (is_rule 2 refl)
        (found_name O N pair x (loads-found O x p.class_loads).0 (loads-found O x p.class_loads).1)
        (none_or (keys O N) None (λ k is. absurd (let clash : None ≡ Some k = is in cc)))
        (none_or (names O N) (Some t) (λ u is. let one : t ≡ u = cc in subst (Contains (names O N)) one (found_name O N pair t (loads-found O t p.target_loads).0 (loads-found O t p.target_loads).1)))

    call_covered : (l : CallLine) → call_here (call_subject l) ≡ Some l → Contains (subjects O N).items (call_subject l)
    call_covered l e = go l.kind l.«class» l.key l.target (call_stands l e)
      where
        go : (kind : CallKind) (x : Bytes) (k : Option Key) (t : Option Bytes) → is_due O N kind x k t ≡ true → Contains (subjects O N).items (on_subject (place_of kind) x k t)
        go Reference x (Some k) None h = reference_covered x k h
        go Access x (Some k) None h = access_covered x k h
        go Joined x None (Some t) h = joined_covered x t h
        go Constants x None None h = constants_covered x h
        go kind x k t h = absurd (let clash : false ≡ true = h in cc)

    abbrev all_calls : List CallLine
    all_calls = filter_map call_here (subjects O N).items

    pub some_calls : (ls : List CallLine) × AreLines O N ls
    some_calls = (
      all_calls,
      exact_same line_order (λ l. call_here (call_subject l) ≡ Some l) (LineStands O N) all_calls call_stands call_found
          (subst (λ order. HasExactly order (λ l. call_here (call_subject l) ≡ Some l) all_calls) (λ i l m. call_ordered l m i)
          (exact_list subject_order call_here call_subject call_is_on (subjects O N).items (subjects O N).in_order (λ l e. call_covered l e))),
    )

-- ---- there is one list

line_total : IsTotalOrder line_order
line_total = then_total (on_total (λ (l : CallLine). place_of l.kind) nat_cmp_total) (then_total (on_total (λ (l : CallLine). l.«class») nat_list_cmp_total) (then_total (on_total (λ (l : CallLine). l.key) (options_total key_total)) (on_total (λ (l : CallLine). l.target) (options_total nat_list_cmp_total))))

pub calls_are_one : (O N : World) (ls ms : List CallLine) → AreLines O N ls → AreLines O N ms → ls ≡ ms
calls_are_one O N ls ms a b = exactly_one line_order line_total (LineStands O N) ls ms a b

-- ---- what is reported

pub calls_on : (b : Bool) (O N : World) → IsPair O N → (IsTrue b → (ls : List CallLine) → AreLines O N ls → length ls ≤ MAX_CALLS) → (o : Option (List CallLine)) × AreAskedCalls b O N o
calls_on false O N pair few = (None, tt)
calls_on true O N pair few = let ls = some_calls O N pair in (Some ls.0, (ls.1, few refl ls.0 ls.1))

pub calls_few : (b : Bool) (O N : World) (o : Option (List CallLine)) → AreAskedCalls b O N o → IsTrue b → (ls : List CallLine) → AreLines O N ls → length ls ≤ MAX_CALLS
calls_few true O N (Some ms) h w ls k = subst (λ (xs : List CallLine). length xs ≤ MAX_CALLS) (calls_are_one O N ms ls h.0 k) h.1
calls_few true O N None h w ls k = absurd h
calls_few false O N o h w ls k = absurd (let clash : false ≡ true = w in cc)

pub calls_one : (b : Bool) (O N : World) (p q : Option (List CallLine)) → AreAskedCalls b O N p → AreAskedCalls b O N q → p ≡ q
calls_one true O N (Some ls) (Some ms) h k = ap (λ (xs : List CallLine). Some xs) (calls_are_one O N ls ms h.0 k.0)
calls_one true O N (Some ls) None h k = absurd k
calls_one true O N None q h k = absurd h
calls_one false O N None None h k = refl
calls_one false O N None (Some ms) h k = absurd k
calls_one false O N (Some ls) q h k = absurd h
