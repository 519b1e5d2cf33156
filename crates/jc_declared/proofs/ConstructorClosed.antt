-- What the rule on constructors finds, of a class's two records.
use Rattle.std.proofs.Common.{◌≡◌, ℕ, Bool, true, false, cond, not, ◌&&◌, refl, sym, ◌∙◌, ap, Option, Some, None}
use Rattle.std.proofs.lemmas.Bool.{and_parts}
use Rattle.std.specs.Cmp.{second_so}
use Rattle.std.proofs.Math.Bool.{and-false}
use Rattle.jc_facts.specs.declared.act.Act.TheVariants as act
use Rattle.jc_facts.specs.declared.class_facts.ClassFacts.{ClassFacts}
use Rattle.jc_facts.specs.declared.class_facts.Member.{Member}
use Rattle.jc_facts.specs.declared.finding.Finding.{Finding}
use Rattle.jc_facts.specs.declared.key.Key.{Key}
use Rattle.jc_facts.specs.declared.link_error.LinkError.{LinkError}
use Rattle.jc_facts.specs.declared.link_error.LinkError.TheVariants.{IllegalAccessError, InstantiationError}
use Rattle.jc_facts.specs.Names.{Bytes, same, is_key}
use Rattle.jc_desc.specs.Names.{is_init_name}
use Rattle.jc_facts.specs.Flags.{public_flag}
use Rattle.jc_facts.specs.Options.{or_else, and_then, some_and}
use Rattle.jc_facts.specs.world.World.{find_class, own_method_of}
use Rattle.jc_facts.specs.world.Loading.{fault_where}
use Rattle.jc_facts.specs.Orders.{finding_order}
use Rattle.jc_promises.specs.rule.Bases.{is_class_usable, is_kept, became_class, is_steady, is_base_class}
use Rattle.jc_promises.specs.rule.Findings.{Subject, finding_at, constructor_closed, report, report_where, new_broken, init_broken, missing_or}
use Rattle.jc_facts.proofs.Same.{same_is}
use Rattle.jc_lemmas.proofs.Lists.{found_passes}
use Rattle.jc_worlds.proofs.Loaded.{loads-found}
use Rattle.jc_sound.proofs.Standing.{usable_parts}
use Rattle.jc_sound.proofs.UsableLaw.{Needs, or_else_needs, and_then_needs}
use Rattle.jc_declared.specs.steps.Constructors.{makes_no_objects, open_flags, declares_init, why_closed, fault_of_new, fault_of_super}
use Rattle.jc_declared.specs.steps.Own.{flags_of, method_flags_of}
use Rattle.jc_sides.specs.BrokenOf.{BrokenOf, broken_if, found}
use Rattle.jc_sides.specs.Members.{is_member, OfPassing}
use Rattle.jc_sides.specs.steps.KeySets.{has_member}
use Rattle.jc_sides.specs.declared.members.Members.TheVariants as members
use Rattle.jc_sides.specs.Rules.{on_key, key_finding, IsFinding, IsItemRule}
use Rattle.jc_sides.proofs.BaseParts.{steady_parts}
use Rattle.jc_sides.proofs.BrokenActs.{found_where}
use Rattle.jc_sides.proofs.KeySets.{some_member}
use Rattle.jc_sides.specs.SidesOf.{SidesOf}
use Rattle.jc_sides.proofs.NamedAbove.{class_unsteady, steady_unkept}
use Rattle.jc_sides.proofs.Subjects.{IsOnKey}
use Rattle.jc_acts.proofs.Untouched.{one_record}
use Rattle.jc_declared.proofs.ChangedClasses.{holds_where, finding_of_changed}
use Rattle.jc_declared.specs.steps.Changed.{changed_steady}

abbrev on_5 : IsOnKey 5
on_5 = record { not_1 = refl; not_2 = refl; not_3 = refl; not_4 = refl }

-- ---- an initializer by its key

-- by the flags of what the class declares
had_flags : (test : ℕ → Bool) (k : Key) (o : Option Member) → (is_init_name k.name && some_and (λ (m : Member). test m.flags) o) ≡ declares_init test k (flags_of o)
had_flags test k None = and-false (is_init_name k.name)
had_flags test k (Some m) = refl

closed_flags : (test : ℕ → Bool) (o : Option Member) → missing_or (λ (m : Member). fault_where (not (test m.flags)) IllegalAccessError) o ≡ why_closed test (flags_of o)
closed_flags test None = refl
closed_flags test (Some m) = refl

-- the key is that of an initializer which the class declares
key_named : (test : ℕ → Bool) (c : ClassFacts) (k : Key) → declares_init test k (flags_of (own_method_of c k)) ≡ true → some_and (λ (m : Member). is_init_name m.name) (own_method_of c k) ≡ true
key_named test c k = go (own_method_of c k) refl
  where
    go : (o : Option Member) → own_method_of c k ≡ o → declares_init test k (flags_of o) ≡ true → some_and (λ (m : Member). is_init_name m.name) o ≡ true
    go None e h = absurd (cc)
    go (Some m) e h =
        let p = and_parts (same m.name k.name) (same m.descriptor k.descriptor) (found_passes (is_key k) c.methods m e) in
        ap is_init_name (same_is m.name k.name p.0) ∙ (and_parts (is_init_name k.name) (test m.flags) h).0

-- ---- the finding

init_is : (s : SidesOf) (x : Bytes) (k : Key)
    → key_finding 5 s x k ≡ or_else (and_then (report (on_key 5 x k) act.NewObject None) (new_broken s.old s.new x k)) (and_then (report (on_key 5 x k) act.InitSuper None) (init_broken s.old s.new x k))
unfolding key_finding finding_at constructor_closed
init_is s x k = refl

super_some : (on : Subject) (b h : Bool) (o : Option LinkError) (e : LinkError) → cond h o None ≡ Some e → and_then (report on act.InitSuper None) (cond (b && h) o None) ≡ report_where b on act.InitSuper e
unfolding and_then
super_some on true true o e q = rw q refl
super_some on true false o e q = absurd (cc)
super_some on false h o e q = refl

super_none : (on : Subject) (b h : Bool) (o : Option LinkError) → cond h o None ≡ None → and_then (report on act.InitSuper None) (cond (b && h) o None) ≡ None
unfolding and_then
super_none on true true o q = rw q refl
super_none on true false o q = refl
super_none on false h o q = refl

module _ (s : SidesOf) (x : Bytes) (c d : ClassFacts) (before : Some c ≡ find_class s.old x) (after : Some d ≡ find_class s.new x) (steady : is_steady s.old s.new x ≡ true) (k : Key) where
  -- what the two declare of the key
  abbrev pub was_of : Option ℕ
  was_of = flags_of (own_method_of c k)

  abbrev pub now_of : Option ℕ
  now_of = flags_of (own_method_of d k)

  new_is : new_broken s.old s.new x k ≡ fault_of_new c d k was_of now_of
  unfolding and_then
  new_is = rw (steady, ← before, ← after, had_flags (λ f. public_flag f) k (own_method_of c k), closed_flags (λ f. public_flag f) (own_method_of d k)) refl

  super_is : init_broken s.old s.new x k ≡ cond (is_base_class s.old s.new x && declares_init (λ f. open_flags f) k was_of) (why_closed (λ f. open_flags f) now_of) None
  unfolding and_then
  super_is = rw (← before, ← after, had_flags (λ f. open_flags f) k (own_method_of c k), closed_flags (λ f. open_flags f) (own_method_of d k)) refl

  finding_is : key_finding 5 s x k ≡ or_else (and_then (report (on_key 5 x k) act.NewObject None) (fault_of_new c d k was_of now_of)) (and_then (report (on_key 5 x k) act.InitSuper None) (cond (is_base_class s.old s.new x && declares_init (λ f. open_flags f) k was_of) (why_closed (λ f. open_flags f) now_of) None))
  finding_is = init_is s x k ∙ rw (new_is, super_is) refl

  -- as the flags are looked up
  pub was_is : (was : Option ℕ) → was ≡ method_flags_of s.old x k → was ≡ was_of
  unfolding and_then
  was_is was h = h ∙ ap (λ (o : Option ClassFacts). flags_of (and_then (λ e. own_method_of e k) o)) (sym before)

  pub now_is : (now : Option ℕ) → now ≡ method_flags_of s.new x k → now ≡ now_of
  unfolding and_then
  now_is now h = h ∙ ap (λ (o : Option ClassFacts). flags_of (and_then (λ e. own_method_of e k) o)) (sym after)

  module _ (was now : Option ℕ) (had : was ≡ method_flags_of s.old x k) (has : now ≡ method_flags_of s.new x k) where
    new_by : fault_of_new c d k was now ≡ fault_of_new c d k was_of now_of
    new_by = ap (λ (o : Option ℕ). fault_of_new c d k o now) (was_is was had) ∙ ap (fault_of_new c d k was_of) (now_is now has)

    super_by : fault_of_super k was now ≡ fault_of_super k was_of now_of
    super_by = ap (λ (o : Option ℕ). fault_of_super k o now) (was_is was had) ∙ ap (fault_of_super k was_of) (now_is now has)

    pub found_new : (e : LinkError) (o : Option BrokenOf) → Some e ≡ fault_of_new c d k was now → o ≡ broken_if true act.NewObject e → found (on_key 5 x k) o ≡ key_finding 5 s x k
    unfolding and_then or_else
    found_new e o h r = ap (found (on_key 5 x k)) r ∙ sym (finding_is ∙ rw (← (h ∙ new_by)) refl)

    pub found_super : (b : Bool) (e : LinkError) (o : Option BrokenOf) → None ≡ fault_of_new c d k was now → Some e ≡ fault_of_super k was now → b ≡ is_base_class s.old s.new x → o ≡ broken_if b act.InitSuper e → found (on_key 5 x k) o ≡ key_finding 5 s x k
    unfolding and_then or_else
    found_super b e o h g q r =
        ap (found (on_key 5 x k)) r ∙ found_where (on_key 5 x k) b act.InitSuper e ∙ ap (λ p. report_where p (on_key 5 x k) act.InitSuper e) q
        ∙ sym (finding_is ∙ rw (← (h ∙ new_by)) (super_some (on_key 5 x k) (is_base_class s.old s.new x) (declares_init (λ f. open_flags f) k was_of) (why_closed (λ f. open_flags f) now_of) e (sym (g ∙ super_by))))

    pub found_none : None ≡ fault_of_new c d k was now → None ≡ fault_of_super k was now → None ≡ key_finding 5 s x k
    unfolding and_then or_else
    found_none h g = sym (finding_is ∙ rw (← (h ∙ new_by)) (super_none (on_key 5 x k) (is_base_class s.old s.new x) (declares_init (λ f. open_flags f) k was_of) (why_closed (λ f. open_flags f) now_of) (sym (g ∙ super_by))))

  declared : (test : ℕ → Bool) → declares_init test k was_of ≡ true → has_member (λ m. is_init_name m.name) c.methods k ≡ true
  declared test h = some_member (λ m. is_init_name m.name) c.methods k (key_named test c k h)

  -- its key is that of an initializer of the class
  pub init_declared : (f : Finding) → key_finding 5 s x k ≡ Some f → has_member (λ m. is_init_name m.name) c.methods k ≡ true
  unfolding Needs
  init_declared f h =
      or_else_needs (has_member (λ m. is_init_name m.name) c.methods k ≡ true) _ _
      (and_then_needs (has_member (λ m. is_init_name m.name) c.methods k ≡ true) (report (on_key 5 x k) act.NewObject None) (not (makes_no_objects c) && declares_init (λ f. public_flag f) k was_of) _ (λ e. declared (λ f. public_flag f) (second_so (not (makes_no_objects c)) (declares_init (λ f. public_flag f) k was_of) e)))
      (and_then_needs (has_member (λ m. is_init_name m.name) c.methods k ≡ true) (report (on_key 5 x k) act.InitSuper None) (is_base_class s.old s.new x && declares_init (λ f. open_flags f) k was_of) _ (λ e. declared (λ f. open_flags f) (second_so (is_base_class s.old s.new x) (declares_init (λ f. open_flags f) k was_of) e)))
      f (sym finding_is ∙ h)

-- ---- where it stands

pub of_inits : (s : SidesOf) (x : Bytes) → is_steady s.old s.new x ≡ true → OfPassing (key_finding 5 s x) (is_member members.OldInitializers s x)
unfolding is_steady is_kept
of_inits s x steady k f m =
    let p = and_parts (is_class_usable s.old x && is_class_usable s.new x) (not (became_class s.old s.new x)) steady in
    let q = and_parts (is_class_usable s.old x) (is_class_usable s.new x) p.0 in
    let c = usable_parts s.old x q.0 in
    let d = usable_parts s.new x q.1 in
    ap (some_and (λ (e : ClassFacts). has_member (λ n. is_init_name n.name) e.methods k)) c.is_there ∙ init_declared s x c.class d.class (sym c.is_there) (sym d.is_there) steady k f m

-- what is declared with flags that pass isn't closed
still_open : (test : ℕ → Bool) (k : Key) (was : Option ℕ) → declares_init test k was ≡ true → why_closed test was ≡ None
still_open test k None h = absurd (cc)
still_open test k (Some f) h = rw (second_so (is_init_name k.name) (test f) h) refl

none_of_new : (c : ClassFacts) (k : Key) (was : Option ℕ) → fault_of_new c c k was was ≡ None
none_of_new c k was = go (makes_no_objects c) (declares_init (λ f. public_flag f) k was) refl
  where
    go : (m d : Bool) → declares_init (λ f. public_flag f) k was ≡ d → cond (not m && d) (cond m (Some InstantiationError) (why_closed (λ f. public_flag f) was)) None ≡ None
    go true d e = refl
    go false true e = still_open (λ f. public_flag f) k was e
    go false false e = refl

none_of_super : (b : Bool) (k : Key) (was : Option ℕ) → cond (b && declares_init (λ f. open_flags f) k was) (why_closed (λ f. open_flags f) was) None ≡ None
none_of_super b k was = go b (declares_init (λ f. open_flags f) k was) refl
  where
    go : (a d : Bool) → declares_init (λ f. open_flags f) k was ≡ d → cond (a && d) (why_closed (λ f. open_flags f) was) None ≡ None
    go true true e = still_open (λ f. open_flags f) k was e
    go true false e = refl
    go false d e = refl

-- a class that has one record on both sides has no finding
of_none : (s : SidesOf) (x : Bytes) → is_steady s.old s.new x ≡ true → find_class s.old x ≡ find_class s.new x → OfPassing (key_finding 5 s x) (λ k. false)
unfolding and_then or_else
of_none s x steady same k f m =
    let t = loads-found s.old x (steady_parts s x steady).both.loads in
    let was = flags_of (own_method_of t.0 k) in
    absurd (let z : None ≡ Some f = sym (finding_is s x t.0 t.0 (sym t.1) (sym t.1 ∙ same) steady k ∙ rw (none_of_new t.0 k was, none_of_super (is_base_class s.old s.new x) k was) refl) ∙ m in cc)

not_found : (s : SidesOf) (x : Bytes) (k : Key) → is_steady s.old s.new x ≡ false → key_finding 5 s x k ≡ None
unfolding and_then or_else
not_found s x k h = init_is s x k ∙ rw (h, class_unsteady s x h) refl

pub is_rule : IsItemRule finding_order (λ (f : Finding). f.«class») (key_finding 5) (IsFinding 5) changed_steady
is_rule = finding_of_changed (λ s x. is_steady s.old s.new x) steady_unkept 5 on_5 (λ s x k f h. holds_where (is_steady s.old s.new x) (key_finding 5 s x k) f (not_found s x k) h)
    (λ s are x is free. of_none s x is (one_record s are x free))
