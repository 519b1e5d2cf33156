-- Two sides of one run have a verdict: what stands on their subjects, in order.
use Rattle.std.proofs.Common.{◌≡◌, Bool, true, false, cond, not, ◌&&◌, ◌==◌, ℕ, List, ◌++◌, refl, sym, ◌∙◌, ap, subst, Option, Some, None, is_some}
use Rattle.std.specs.List.{Contains, filter_map}
use Rattle.std.specs.declared.cmp.Ordering.{Ordering}
use Rattle.std.specs.declared.cmp.Ordering.TheVariants.{Less, Equal, Greater}
use Rattle.std.specs.Ordering.{nat_cmp, ordering_then}
use Rattle.std.specs.Option.{option_cmp}
use Rattle.std.proofs.lemmas.Bool.{eqb-true, or_left}
use Rattle.std.proofs.lemmas.List.Elements.{Contains-append_left, Contains-append_right}
use Rattle.std.specs.Cmp.{first_so, second_so}
use Rattle.jc_facts.specs.declared.class_facts.ClassFacts.{ClassFacts}
use Rattle.jc_facts.specs.declared.class_facts.Member.{Member}
use Rattle.jc_facts.specs.declared.finding.Finding.{Finding}
use Rattle.jc_facts.specs.declared.key.Key.{Key}
use Rattle.jc_facts.specs.declared.act.Act.{Act}
use Rattle.jc_facts.specs.declared.link_error.LinkError.{LinkError}
use Rattle.jc_facts.specs.declared.verdict.Collision.{Collision}
use Rattle.jc_facts.specs.declared.verdict.Note.{Note}
use Rattle.jc_facts.specs.declared.verdict.Note.TheVariants as note
use Rattle.jc_facts.specs.declared.verdict.Verdict.{Verdict}
use Rattle.jc_facts.specs.declared.warning.Warning.{Warning}
use Rattle.jc_facts.specs.declared.warning.WarnKind.{WarnKind}
use Rattle.jc_facts.specs.world.Assignment.{is_interface_of}
use Rattle.jc_promises.specs.rule.Collisions.{CollisionStands, collision_at, made_collision}
use Rattle.jc_promises.specs.rule.Findings.{Subject, Stands, finding_at, finding_by, subject_of, superclass_lost}
use Rattle.jc_facts.specs.Flags.{static_flag, final_flag}
use Rattle.jc_facts.specs.world.Hierarchy.{chain, in_chain, superinterfaces, with_interfaces}
use Rattle.jc_facts.specs.KeyOrder.{key_cmp}
use Rattle.jc_facts.specs.world.Loading.{load_fault}
use Rattle.jc_facts.specs.Names.{Bytes, same}
use Rattle.jc_promises.specs.rule.Notes.{NoteStands, in_release, has_lost_constant, has_static_final, value_of_constant}
use Rattle.jc_facts.specs.Records.{same_constant}
use Rattle.jc_facts.specs.Options.{and_then, some_and, some_where}
use Rattle.jc_facts.specs.Orders.{finding_order, collision_order, note_order, group_of, noted_class, noted_key}
use Rattle.jc_facts.specs.Exactly.{name_order, HasExactly}
use Rattle.jc_promises.specs.rule.Verdict.{IsVerdict}
use Rattle.jc_promises.specs.rule.Warnings.{AreWarnings, WarningStands, interfaces_from, is_base, warning_at, warning_order}
use Rattle.jc_select.specs.steps.Warned.{warning_of}
use Rattle.jc_select.proofs.KindsWarned.{warned_parts}
use Rattle.jc_select.proofs.WarnedKeys.{from_both, warned_declared}
use Rattle.jc_sides.proofs.ItemRules.{kept_where}
use Rattle.jc_sides.proofs.NamedAbove.{base_unkept}
use Rattle.jc_promises.specs.rule.Bases.{is_class_usable, is_kept}
use Rattle.jc_facts.specs.world.World.{World, classes, find_class, own_field_of, own_method_of}
use Rattle.jc_promises.specs.Pairs.{IsPair}
use Rattle.jc_lemmas.proofs.Listed.{EachOf, EachOf-map, EachOf-append}
use Rattle.jc_worlds.proofs.Loaded.{loads-found}
use Rattle.jc_worlds.specs.Hierarchy.{above}
use Rattle.jc_sound.proofs.ExactLists.{exact_list}
use Rattle.jc_sound.proofs.FindingLaws.{finding_is_on_its_subject}
use Rattle.jc_facts.proofs.InOrder.{exact_same}
use Rattle.jc_sound.proofs.KeyLaws.{keys_are_declared, collision_keys_are_declared}
use Rattle.jc_sound.proofs.ClientItems.{chain-names}
use Rattle.jc_sound.proofs.Standing.{usable_parts}
use Rattle.jc_sound.proofs.UsableLaw.{Needs, none_needs, cond_needs, either_needs, findings_are_of_loaded, collisions_are_of_usable}
use Rattle.jc_lemmas.proofs.Options.{none_where}
use Rattle.jc_facts.proofs.World.{find-name, class_named-name}
use Rattle.jc_sides.proofs.Subjects.{subject_order}
use Rattle.jc_commands.proofs.Declarations.{found_in_world, above_in, chain_all, with_all, super_all, class_key, some_key}
use Rattle.jc_commands.proofs.Subjects.{on_subject, rules, is_rule, none_or, names, keys, name_of, subjects, covered}
use Rattle.jc_selection.proofs.Parts.{class_named-in}

-- ---- what a rule gives is of that rule

rule_needs : {X : Type 0} (rule n : ℕ) (o p : Option X) → Contains rules n → Needs (Contains rules rule) p → Needs (Contains rules rule) (cond (rule == n) o p)
unfolding Needs
rule_needs {X} rule n o p c q f e = go (rule == n) refl e
  where
    go : (b : Bool) → (rule == n) ≡ b → cond b o p ≡ Some f → Contains rules rule
    go true z w = subst (Contains rules) (sym (eqb-true rule n z)) c
    go false z w = q f w

finding_rule : (O N : World) (s : Subject) (k : Option Key) (t : Option Bytes) → Needs (Contains rules s.rule) (finding_by O N s k t)
finding_rule O N s None None = rule_needs s.rule 1 _ _ (is_rule 1 refl) (rule_needs s.rule 2 _ _ (is_rule 2 refl) (rule_needs s.rule 3 _ None (is_rule 3 refl) (none_needs Finding (Contains rules s.rule))))
finding_rule O N s None (Some t) = rule_needs s.rule 4 _ None (is_rule 4 refl) (none_needs Finding (Contains rules s.rule))
finding_rule O N s (Some k) None =
    rule_needs s.rule 5 _ _ (is_rule 5 refl) (rule_needs s.rule 6 _ _ (is_rule 6 refl) (rule_needs s.rule 7 _ _ (is_rule 7 refl)
    (rule_needs s.rule 8 _ _ (is_rule 8 refl) (rule_needs s.rule 9 _ None (is_rule 9 refl) (none_needs Finding (Contains rules s.rule))))))
finding_rule O N s (Some k) (Some t) = none_needs Finding (Contains rules s.rule)

pub of_kept : (O N : World) (x : Bytes) → is_kept O N x ≡ true → is_class_usable O x ≡ true
unfolding is_kept
of_kept O N x h = first_so (is_class_usable O x) (is_class_usable N x) h

-- the target of a finding stood above its class
target_above : (O N : World) (s : Subject) (k : Option Key) (t : Bytes) → Needs (in_chain O s.«class» t ≡ true) (finding_by O N s k (Some t))
unfolding superclass_lost
target_above O N s None t =
    either_needs (in_chain O s.«class» t ≡ true) (s.rule == 4) (superclass_lost O N s t) None
    (cond_needs (in_chain O s.«class» t ≡ true) (not (same s.«class» t) && in_chain O s.«class» t && not (in_chain N s.«class» t) && not (is_interface_of N t)) _
    (λ h. second_so (not (same s.«class» t)) (in_chain O s.«class» t) (first_so (not (same s.«class» t) && in_chain O s.«class» t) (not (in_chain N s.«class» t))
    (first_so (not (same s.«class» t) && in_chain O s.«class» t && not (in_chain N s.«class» t)) (not (is_interface_of N t)) h))))
    (none_needs Finding (in_chain O s.«class» t ≡ true))
target_above O N s (Some k) t = none_needs Finding (in_chain O s.«class» t ≡ true)

-- ---- collisions by subject

abbrev collision_subject : Collision → Subject
collision_subject c = on_subject c.rule c.«class» (Some c.key) None

module _ (O N : World) where
  abbrev collision_by : Subject → Option Key → Option Bytes → Option Collision
  collision_by s None t = None
  collision_by s (Some k) None = collision_at O N s.rule s.«class» k
  collision_by s (Some k) (Some t) = None

  abbrev collision_of : Subject → Option Collision
  collision_of s = collision_by s s.key s.target

  same_where : (rule : ℕ) (x : Bytes) (k : Key) (a : Act) (e : LinkError) (b : Bool) (c : Collision) → some_where b (made_collision rule x k a e) ≡ Some c → collision_subject c ≡ on_subject rule x (Some k) None
  same_where rule x k a e true c q = let is : made_collision rule x k a e ≡ c = cc in ap collision_subject (sym is)
  same_where rule x k a e false c q = absurd (cc)

  either_gives : (G : Type 0) (b : Bool) (o p : Option Collision) (c : Collision) → (o ≡ Some c → G) → (p ≡ Some c → G) → cond b o p ≡ Some c → G
  either_gives G true o p c f g e = f e
  either_gives G false o p c f g e = g e

  collision_there : (rule : ℕ) (x : Bytes) (k : Key) (c : Collision) → collision_at O N rule x k ≡ Some c → collision_subject c ≡ on_subject rule x (Some k) None
  unfolding collision_at
  collision_there rule x k c e =
      either_gives G (rule == 10) _ _ c (same_where rule x k _ _ _ c) (either_gives G (rule == 11) _ _ c (same_where rule x k _ _ _ c) (either_gives G (rule == 12) _ None c (same_where rule x k _ _ _ c) nothing)) e
    where
      G : Type 0
      G = collision_subject c ≡ on_subject rule x (Some k) None

      nothing : None ≡ Some c → G
      nothing q = absurd (cc)

  collision_rule : (rule : ℕ) (x : Bytes) (k : Key) → Needs (Contains rules rule) (collision_at O N rule x k)
  unfolding collision_at
  collision_rule rule x k = rule_needs rule 10 _ _ (is_rule 10 refl) (rule_needs rule 11 _ _ (is_rule 11 refl) (rule_needs rule 12 _ None (is_rule 12 refl) (none_needs Collision (Contains rules rule))))

  collision_is_on : (s : Subject) (c : Collision) → collision_of s ≡ Some c → collision_subject c ≡ s
  collision_is_on s c e = go s.key refl s.target refl e
    where
      go : (k : Option Key) → s.key ≡ k → (t : Option Bytes) → s.target ≡ t → collision_by s k t ≡ Some c → collision_subject c ≡ s
      go None p t q r = absurd (cc)
      go (Some k) p None q r =
          collision_there s.rule s.«class» k c r ∙ sym (ap (λ o. on_subject s.rule s.«class» o s.target) p ∙ ap (λ o. on_subject s.rule s.«class» (Some k) o) q)
      go (Some k) p (Some t) q r = absurd (cc)

-- ---- warnings by subject

abbrev warning_subject : Warning → Subject
warning_subject w = on_subject 0 w.«class» (Some w.key) None

module _ (O N : World) where
  abbrev warning_by : Subject → Option Key → Option Bytes → Option Warning
  warning_by s None t = None
  warning_by s (Some k) None = cond (s.rule == 0) (warning_of s.«class» k (warning_at O N s.«class» k)) None
  warning_by s (Some k) (Some t) = None

  abbrev warning_on : Subject → Option Warning
  warning_on s = warning_by s s.key s.target

  warning_is_on : (s : Subject) (w : Warning) → warning_on s ≡ Some w → warning_subject w ≡ s
  warning_is_on s w e = go s.key refl s.target refl e
    where
      on : (k : Key) (o : Option WarnKind) → warning_of s.«class» k o ≡ Some w → warning_subject w ≡ on_subject 0 s.«class» (Some k) None
      on k None q = absurd (cc)
      on k (Some d) q = let is : record { «class» = s.«class»; key = k; kind = d } ≡ w = cc in ap warning_subject (sym is)

      of_rule : (k : Key) (b : Bool) → (s.rule == 0) ≡ b → s.key ≡ Some k → s.target ≡ None → cond b (warning_of s.«class» k (warning_at O N s.«class» k)) None ≡ Some w → warning_subject w ≡ s
      of_rule k true p q t r =
          on k (warning_at O N s.«class» k) r
          ∙ sym (ap (λ n. on_subject n s.«class» s.key s.target) (eqb-true s.rule 0 p) ∙ ap (λ o. on_subject 0 s.«class» o s.target) q ∙ ap (λ o. on_subject 0 s.«class» (Some k) o) t)
      of_rule k false p q t r = absurd (cc)

      go : (k : Option Key) → s.key ≡ k → (t : Option Bytes) → s.target ≡ t → warning_by s k t ≡ Some w → warning_subject w ≡ s
      go None p t q r = absurd (cc)
      go (Some k) p None q r = of_rule k (s.rule == 0) refl p q r
      go (Some k) p (Some t) q r = absurd (cc)

  warning_stands : (w : Warning) → warning_on (warning_subject w) ≡ Some w → WarningStands O N w
  warning_stands w e = go (warning_at O N w.«class» w.key) e
    where
      go : (o : Option WarnKind) → warning_of w.«class» w.key o ≡ Some w → o ≡ Some w.kind
      go None q = absurd (cc)
      go (Some d) q = let is : record { «class» = w.«class»; key = w.key; kind = d } ≡ w = cc in ap (λ (v : Warning). Some v.kind) is

  warning_found : (w : Warning) → WarningStands O N w → warning_on (warning_subject w) ≡ Some w
  warning_found w h = ap (warning_of w.«class» w.key) h

-- they are in the order of their subjects
warning_ordered : (v w : Warning) → subject_order (warning_subject v) (warning_subject w) ≡ warning_order v w
warning_ordered v w = go (name_order v.«class» w.«class») (key_cmp v.key w.key)
  where
    go : (a b : Ordering) → ordering_then a (ordering_then b Equal) ≡ ordering_then a b
    go Less b = refl
    go Greater b = refl
    go Equal Less = refl
    go Equal Equal = refl
    go Equal Greater = refl

-- ---- notes by subject

abbrev note_subject : Note → Subject
note_subject n = on_subject (group_of n) (noted_class n) (noted_key n) None

-- the note on a class that doesn't load
abbrev unloadable : Bool → World → Bytes → Option Note
unloadable old W x = cond (is_some (in_release W x)) (and_then (λ e. Some (note.Unloadable old x e)) (load_fault W x)) None

unloadable_on : (old : Bool) (W : World) (x : Bytes) (n : Note) → unloadable old W x ≡ Some n → note_subject n ≡ on_subject (cond old 0 1) x None None
unfolding and_then
unloadable_on old W x n e = go (is_some (in_release W x)) (load_fault W x) e
  where
    go : (b : Bool) (o : Option LinkError) → cond b (and_then (λ e. Some (note.Unloadable old x e)) o) None ≡ Some n → note_subject n ≡ on_subject (cond old 0 1) x None None
    go true (Some f) q = let is : note.Unloadable old x f ≡ n = cc in ap note_subject (sym is)
    go true None q = absurd (cc)
    go false o q = absurd (cc)

unloadable_stands : (old : Bool) (W : World) (x : Bytes) (e : LinkError) → unloadable old W x ≡ Some (note.Unloadable old x e) → (is_some (in_release W x) ≡ true) × (load_fault W x ≡ Some e)
unfolding and_then
unloadable_stands old W x e h = go (is_some (in_release W x)) refl (load_fault W x) refl h
  where
    go : (b : Bool) → is_some (in_release W x) ≡ b → (o : Option LinkError) → load_fault W x ≡ o → cond b (and_then (λ e. Some (note.Unloadable old x e)) o) None ≡ Some (note.Unloadable old x e)
        → (is_some (in_release W x) ≡ true) × (load_fault W x ≡ Some e)
    go true p (Some f) q r = let is : f ≡ e = cc in (p, q ∙ ap (λ (z : LinkError). Some z) is)
    go true p None q r = absurd (cc)
    go false p o q r = absurd (cc)

unloadable_found : (old : Bool) (W : World) (x : Bytes) (e : LinkError) → is_some (in_release W x) ≡ true → load_fault W x ≡ Some e → unloadable old W x ≡ Some (note.Unloadable old x e)
unfolding and_then
unloadable_found old W x e p q = rw (p, q) refl

module _ (O N : World) where
  abbrev changes_constant : Bytes → Key → Bool
  changes_constant x k = is_kept O N x && some_and (λ c. some_and (λ d. has_lost_constant c d k) (in_release N x)) (in_release O x)

  abbrev note_by : Subject → Option Key → Option Bytes → Option Note
  note_by s None None = cond (s.rule == 0) (unloadable true O s.«class») (cond (s.rule == 1) (unloadable false N s.«class») None)
  note_by s (Some k) None = cond (s.rule == 2) (some_where (changes_constant s.«class» k) (note.Fixed s.«class» k)) None
  note_by s k (Some t) = None

  abbrev note_of : Subject → Option Note
  note_of s = note_by s s.key s.target

  stands_of : (n : Note) → note_of (note_subject n) ≡ Some n → NoteStands O N n
  stands_of (note.Unloadable true x e) h = unloadable_stands true O x e h
  stands_of (note.Unloadable false x e) h = unloadable_stands false N x e h
  stands_of (note.Fixed x k) h = go (changes_constant x k) h
    where
      go : (b : Bool) → some_where b (note.Fixed x k) ≡ Some (note.Fixed x k) → b ≡ true
      go true q = refl
      go false q = absurd (cc)

  of_stands : (n : Note) → NoteStands O N n → note_of (note_subject n) ≡ Some n
  of_stands (note.Unloadable true x e) h = unloadable_found true O x e h.0 h.1
  of_stands (note.Unloadable false x e) h = unloadable_found false N x e h.0 h.1
  of_stands (note.Fixed x k) h = ap (λ b. some_where b (note.Fixed x k)) h

  note_is_on : (s : Subject) (n : Note) → note_of s ≡ Some n → note_subject n ≡ s
  note_is_on s n e = go s.key refl s.target refl e
    where
      moved : (rule : ℕ) (k : Option Key) → s.rule ≡ rule → s.key ≡ k → s.target ≡ None → on_subject rule s.«class» k None ≡ s
      moved rule k a b c = sym (ap (λ r. on_subject r s.«class» s.key s.target) a ∙ ap (λ o. on_subject rule s.«class» o s.target) b ∙ ap (λ o. on_subject rule s.«class» k o) c)

      of_class : (a b : Bool) → (s.rule == 0) ≡ a → (s.rule == 1) ≡ b → s.key ≡ None → s.target ≡ None → cond a (unloadable true O s.«class») (cond b (unloadable false N s.«class») None) ≡ Some n → note_subject n ≡ s
      of_class true b p q k t r = unloadable_on true O s.«class» n r ∙ moved 0 None (eqb-true s.rule 0 p) k t
      of_class false true p q k t r = unloadable_on false N s.«class» n r ∙ moved 1 None (eqb-true s.rule 1 q) k t
      of_class false false p q k t r = absurd (cc)

      of_key : (k : Key) (a b : Bool) → (s.rule == 2) ≡ a → s.key ≡ Some k → s.target ≡ None → cond a (some_where b (note.Fixed s.«class» k)) None ≡ Some n → note_subject n ≡ s
      of_key k true true p j t r = let is : note.Fixed s.«class» k ≡ n = cc in ap note_subject (sym is) ∙ moved 2 (Some k) (eqb-true s.rule 2 p) j t
      of_key k true false p j t r = absurd (cc)
      of_key k false b p j t r = absurd (cc)

      go : (k : Option Key) → s.key ≡ k → (t : Option Bytes) → s.target ≡ t → note_by s k t ≡ Some n → note_subject n ≡ s
      go None p None q r = of_class (s.rule == 0) (s.rule == 1) refl refl p q r
      go (Some k) p None q r = of_key k (s.rule == 2) (changes_constant s.«class» k) refl p q r
      go None p (Some t) q r = absurd (cc)
      go (Some k) p (Some t) q r = absurd (cc)

-- ---- the lists

pub last_tied : (o : Ordering) → ordering_then o Equal ≡ o
last_tied Less = refl
last_tied Equal = refl
last_tied Greater = refl

collision_ordered : (c d : Collision) → subject_order (collision_subject c) (collision_subject d) ≡ collision_order c d
collision_ordered c d = ap (λ o. ordering_then (nat_cmp c.rule d.rule) (ordering_then (name_order c.«class» d.«class») o)) (last_tied (key_cmp c.key d.key))

note_ordered : (m n : Note) → subject_order (note_subject m) (note_subject n) ≡ note_order m n
note_ordered m n = ap (λ o. ordering_then (nat_cmp (group_of m) (group_of n)) (ordering_then (name_order (noted_class m) (noted_class n)) o)) (last_tied (option_cmp key_cmp (noted_key m) (noted_key n)))

module _ (O N : World) (pair : IsPair O N) where
  of_old : (c : ClassFacts) → Contains (classes O) c → Contains (classes O ++ classes N) c
  of_old c m = Contains-append_left (classes O) (classes N) c m

  of_new : (c : ClassFacts) → Contains (classes N) c → Contains (classes O ++ classes N) c
  of_new c m = Contains-append_right (classes O) (classes N) c m

  pub found_name : (x : Bytes) (c : ClassFacts) → find_class O x ≡ Some c → Contains (names O N) x
  found_name x c e = name_of O N x c (of_old c (found_in_world O x c e)) (find-name O x c e)

  pub usable_name : (x : Bytes) → is_class_usable O x ≡ true → Contains (names O N) x
  usable_name x h = let u = usable_parts O x h in found_name x u.class u.is_there

  loaded_name : (x : Bytes) → load_fault O x ≡ None → Contains (names O N) x
  loaded_name x h = let c = loads-found O x h in found_name x c.0 c.1

  above_name : (x t : Bytes) → load_fault O x ≡ None → in_chain O x t ≡ true → Contains (names O N) t
  above_name x t h i = let c = chain-names O x t h i in found_name t c.0 c.1

  all_above : (x : Bytes) → EachOf (Contains (classes O ++ classes N)) (above O x ++ above N x)
  all_above x = EachOf-append (Contains (classes O ++ classes N)) (above O x) (above N x) (EachOf-map of_old (above O x) (above_in O x)) (EachOf-map of_new (above N x) (above_in N x))

  finding_covered : (f : Finding) → finding_at O N (subject_of f) ≡ Some f → Contains (subjects O N).items (subject_of f)
  unfolding finding_at Needs
  finding_covered f e =
      let loaded : load_fault O f.«class» ≡ None = none_where (load_fault O f.«class») (findings_are_of_loaded O N (subject_of f) f e) in
      covered O N (subject_of f) (finding_rule O N (subject_of f) f.key f.target f e) (loaded_name f.«class» loaded)
      (none_or (keys O N) f.key (λ k is. some_key k (classes O ++ classes N) (above O f.«class» ++ above N f.«class») (all_above f.«class») (keys_are_declared O N pair (subject_of f) k f is e)))
      (none_or (names O N) f.target (λ t is. above_name f.«class» t loaded (target_above O N (subject_of f) f.key t f (subst (λ o. finding_by O N (subject_of f) f.key o ≡ Some f) is e))))

  abbrev findings : List Finding
  findings = filter_map (finding_at O N) (subjects O N).items

  findings_exact : HasExactly finding_order (Stands O N) findings
  findings_exact = exact_list subject_order (finding_at O N) subject_of (finding_is_on_its_subject O N) (subjects O N).items (subjects O N).in_order (λ f e. (finding_covered f e))

  collision_covered : (c : Collision) → collision_of O N (collision_subject c) ≡ Some c → Contains (subjects O N).items (collision_subject c)
  unfolding Needs
  collision_covered c e =
      covered O N (collision_subject c) (collision_rule O N c.rule c.«class» c.key c e) (usable_name c.«class» (collisions_are_of_usable O N c.rule c.«class» c.key c e))
      (none_or (keys O N) (Some c.key) (λ k is. let same : c.key ≡ k = cc in subst (Contains (keys O N)) same
      (some_key c.key (classes O ++ classes N) (above N c.«class») (EachOf-map of_new (above N c.«class») (above_in N c.«class»)) (collision_keys_are_declared O N pair c.rule c.«class» c.key c e))))
      (none_or (names O N) None (λ t is. absurd (let clash : None ≡ Some t = is in cc)))

  abbrev collisions : List Collision
  collisions = filter_map (collision_of O N) (subjects O N).items

  collisions_exact : HasExactly collision_order (CollisionStands O N) collisions
  collisions_exact = subst (λ order. HasExactly order (CollisionStands O N) collisions) (λ i c d. collision_ordered c d i)
      (exact_list subject_order (collision_of O N) collision_subject (collision_is_on O N) (subjects O N).items (subjects O N).in_order (λ c e. (collision_covered c e)))

  -- ---- warnings

  all_from : (W : World) (x : Bytes) → EachOf (Contains (classes W)) (interfaces_from W x)
  unfolding interfaces_from
  all_from W x = go (is_interface_of W x)
    where
      go : (b : Bool) → EachOf (Contains (classes W)) (cond b (with_interfaces W x) (superinterfaces W x))
      go true = with_all W x
      go false = super_all W x

  from_all : (x : Bytes) → EachOf (Contains (classes O ++ classes N)) (from_both O N x)
  from_all x = EachOf-append (Contains (classes O ++ classes N)) (chain O x ++ interfaces_from O x) (chain N x ++ interfaces_from N x)
      (EachOf-map of_old (chain O x ++ interfaces_from O x) (EachOf-append (Contains (classes O)) (chain O x) (interfaces_from O x) (chain_all O x) (all_from O x)))
      (EachOf-map of_new (chain N x ++ interfaces_from N x) (EachOf-append (Contains (classes N)) (chain N x) (interfaces_from N x) (chain_all N x) (all_from N x)))

  warning_covered : (w : Warning) → warning_on O N (warning_subject w) ≡ Some w → Contains (subjects O N).items (warning_subject w)
  warning_covered w e =
      let h = warning_stands O N w e in
      let parts = warned_parts (record { old = O; new = N }) w.«class» w.key w.kind h in
      covered O N (warning_subject w) (is_rule 0 refl) (usable_name w.«class» (of_kept O N w.«class» (kept_where (λ s x. is_base s.old s.new x) base_unkept (record { old = O; new = N }) w.«class» parts.covered)))
      (none_or (keys O N) (Some w.key) (λ k is. let same : w.key ≡ k = cc in subst (Contains (keys O N)) same
      (some_key w.key (classes O ++ classes N) (from_both O N w.«class») (from_all w.«class») (warned_declared O N w.«class» w.key w.kind h))))
      (none_or (names O N) None (λ t is. absurd (let clash : None ≡ Some t = is in cc)))

  abbrev warnings : List Warning
  warnings = filter_map (warning_on O N) (subjects O N).items

  pub some_warnings : (ws : List Warning) × AreWarnings O N ws
  some_warnings = (
    warnings,
    exact_same warning_order (λ w. warning_on O N (warning_subject w) ≡ Some w) (WarningStands O N) warnings (warning_stands O N) (warning_found O N)
        (subst (λ order. HasExactly order (λ w. warning_on O N (warning_subject w) ≡ Some w) warnings) (λ i v w. warning_ordered v w i)
        (exact_list subject_order (warning_on O N) warning_subject (warning_is_on O N) (subjects O N).items (subjects O N).in_order (λ w e. warning_covered w e))),
  )

  -- ---- notes

  released : (W : World) (x : Bytes) → ((c : ClassFacts) → Contains W.release c → Contains (classes O ++ classes N) c) → is_some (in_release W x) ≡ true → Contains (names O N) x
  released W x among h = go (in_release W x) refl h
    where
      go : (o : Option ClassFacts) → in_release W x ≡ o → is_some o ≡ true → Contains (names O N) x
      go None e q = absurd (cc)
      go (Some c) e q = name_of O N x c (among c (class_named-in W.release x c e)) (class_named-name W.release x c e)

  in_old : (c : ClassFacts) → Contains O.release c → Contains (classes O ++ classes N) c
  in_old c m = of_old c (Contains-append_left (O.platform ++ O.release) O.clients c (Contains-append_right O.platform O.release c m))

  in_new : (c : ClassFacts) → Contains N.release c → Contains (classes O ++ classes N) c
  in_new c m = of_new c (Contains-append_left (N.platform ++ N.release) N.clients c (Contains-append_right N.platform N.release c m))

  -- a key that a class of the old release has a constant of is one of those that classes declare
  constant_key : (x : Bytes) (k : Key) → changes_constant O N x k ≡ true → Contains (keys O N) k
  unfolding has_lost_constant
  constant_key x k h = go (in_release O x) refl (in_release N x) (second_so (is_kept O N x) _ h)
    where
      field : (c d : ClassFacts) → has_lost_constant c d k ≡ true → is_some (own_field_of c k) ≡ true
      field c d e = has (λ m. static_flag m.flags && final_flag m.flags) (own_field_of c k) (first_so (has_static_final c k) (is_some (own_field_of d k))
          (first_so (has_static_final c k && is_some (own_field_of d k)) (some_and (λ v. not (some_and (same_constant v) (value_of_constant d k))) (value_of_constant c k)) e))
        where
          has : (test : Member → Bool) (o : Option Member) → some_and test o ≡ true → is_some o ≡ true
          has test None q = absurd (cc)
          has test (Some m) q = refl

      go : (o : Option ClassFacts) → in_release O x ≡ o → (p : Option ClassFacts) → some_and (λ c. some_and (λ d. has_lost_constant c d k) p) o ≡ true → Contains (keys O N) k
      go (Some c) e (Some d) q = class_key k (classes O ++ classes N) c (in_old c (class_named-in O.release x c e)) (or_left (is_some (own_field_of c k)) (is_some (own_method_of c k)) (field c d q))
      go (Some c) e None q = absurd (cc)
      go None e p q = absurd (cc)

  note_covered : (n : Note) → NoteStands O N n → Contains (subjects O N).items (note_subject n)
  note_covered (note.Unloadable true x e) h =
      covered O N (on_subject 0 x None None) (is_rule 0 refl) (released O x in_old h.0) (none_or (keys O N) None (λ k is. absurd (let clash : None ≡ Some k = is in cc))) (none_or (names O N) None (λ t is. absurd (let clash : None ≡ Some t = is in cc)))
  note_covered (note.Unloadable false x e) h =
      covered O N (on_subject 1 x None None) (is_rule 1 refl) (released N x in_new h.0) (none_or (keys O N) None (λ k is. absurd (let clash : None ≡ Some k = is in cc))) (none_or (names O N) None (λ t is. absurd (let clash : None ≡ Some t = is in cc)))
  note_covered (note.Fixed x k) h =
      covered O N (on_subject 2 x (Some k) None) (is_rule 2 refl) (usable_name x (of_kept O N x (first_so (is_kept O N x) _ h)))
      (none_or (keys O N) (Some k) (λ l is. let same : k ≡ l = cc in subst (Contains (keys O N)) same (constant_key x k h)))
      (none_or (names O N) None (λ t is. absurd (let clash : None ≡ Some t = is in cc)))

  abbrev notes : List Note
  notes = filter_map (note_of O N) (subjects O N).items

  notes_exact : HasExactly note_order (NoteStands O N) notes
  notes_exact = exact_same note_order (λ n. note_of O N (note_subject n) ≡ Some n) (NoteStands O N) (filter_map (note_of O N) (subjects O N).items) (stands_of O N) (of_stands O N)
      (subst (λ order. HasExactly order (λ n. note_of O N (note_subject n) ≡ Some n) (filter_map (note_of O N) (subjects O N).items)) (λ i m n. note_ordered m n i)
      (exact_list subject_order (note_of O N) note_subject (note_is_on O N) (subjects O N).items (subjects O N).in_order (λ n e. note_covered n (stands_of O N n e))))

  pub some_verdict : (v : Verdict) × IsVerdict O N v
  some_verdict = (record { findings = findings; collisions = collisions; notes = notes }, record { findings = findings_exact; collisions = collisions_exact; notes = notes_exact })
