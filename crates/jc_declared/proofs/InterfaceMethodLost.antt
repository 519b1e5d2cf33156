-- What the rule on methods that interfaces don't inherit any more finds.
use Rattle.std.proofs.Common.{◌≡◌, ℕ, Bool, true, false, not, cond, refl, sym, ◌∙◌, ap, subst, Option, Some, None, is_some, is_none, ◌&&◌, ◌||◌, List, [], ◌∷◌, ◌⊎◌, inl, inr}
use Rattle.std.proofs.lemmas.Bool.{and_parts, or_left, both_ways, and_left}
use Rattle.std.specs.List.{list_any, Contains}
use Rattle.jc_facts.specs.declared.act.Act.TheVariants.{Inherit}
use Rattle.jc_facts.specs.declared.class_facts.ClassFacts.{ClassFacts}
use Rattle.jc_facts.specs.declared.class_facts.Member.{Member}
use Rattle.jc_facts.specs.declared.finding.Finding.{Finding}
use Rattle.jc_facts.specs.declared.key.Key.{Key}
use Rattle.jc_facts.specs.declared.link_error.LinkError.TheVariants.{NoSuchMethodError}
use Rattle.jc_promises.specs.rule.Findings.{finding_at, interface_method_lost, report_where}
use Rattle.jc_facts.specs.Flags.{public_flag, private_flag, static_flag, no_static_flag}
use Rattle.jc_facts.specs.world.Hierarchy.{chain, of_super, superinterfaces}
use Rattle.jc_facts.specs.world.Loading.{load_fault}
use Rattle.jc_facts.specs.world.Lookup.{public_method_of_object, if_public_instance, interface_choices, superinterface_choices, or_choices}
use Rattle.jc_facts.specs.Names.{Bytes, object_name}
use Rattle.jc_facts.specs.Options.{and_then, or_else, some_and}
use Rattle.jc_facts.specs.Orders.{finding_order}
use Rattle.jc_promises.specs.rule.Bases.{is_base_interface, is_key_of_method}
use Rattle.jc_facts.specs.world.Inheritance.{inherits, offers, is_inheritable, itself_and}
use Rattle.jc_facts.specs.world.World.{World, find_class, class_named, DeclaredMember, found_in, own_method_of, declared_method}
use Rattle.jc_lemmas.proofs.Listed.{none, cases}
use Rattle.jc_lemmas.proofs.Lists.{IsCons}
use Rattle.jc_lemmas.proofs.Options.{none_from}
use Rattle.jc_worlds.specs.Agreement.{LooksTheSame}
use Rattle.jc_worlds.proofs.Loaded.{loads-found}
use Rattle.jc_worlds.proofs.Offers.{choices-some, choices-offers}
use Rattle.jc_worlds.proofs.Unrolled.{chain-unroll}
use Rattle.jc_sound.proofs.ClassGoneLaw.{report_where-some}
use Rattle.jc_index.specs.Lookups.{IsChoice}
use Rattle.jc_index.specs.steps.Choosing.{candidate_at, FindsAbove}
use Rattle.jc_index.specs.declared.ids.Found.{Found}
use Rattle.jc_method.proofs.Offering.{offered, inherits_is_found}
use Rattle.jc_declared.specs.steps.Methods.{loses, has_lost_method}
use Rattle.jc_sides.specs.BrokenOf.{BrokenOf, broken_if, found}
use Rattle.jc_sides.specs.Members.{is_member, OfPassing}
use Rattle.jc_sides.specs.declared.members.Members.TheVariants as members
use Rattle.jc_sides.specs.Rules.{on_key, key_finding, IsFinding, IsItemRule}
use Rattle.jc_sides.proofs.BrokenActs.{found_where}
use Rattle.jc_sides.specs.SidesOf.{SidesOf, AreSides}
use Rattle.jc_sides.proofs.BaseParts.{base_interface_parts}
use Rattle.jc_sides.proofs.NamedAbove.{interface_unkept}
use Rattle.jc_sides.proofs.Subjects.{IsOnKey}
use Rattle.jc_index.specs.Ids.{name_at, id_of}
use Rattle.jc_index.proofs.Numbers.{find-None, id_of-Some}
use Rattle.jc_index.proofs.Sides.{root_at}
use Rattle.jc_acts.proofs.Untouched.{looks_alike}
use Rattle.jc_declared.proofs.ChangedClasses.{finding_of_changed}
use Rattle.jc_declared.specs.steps.Changed.{changed_interface}

-- the test of the rule
abbrev is_lost : SidesOf → Bytes → Key → Bool
is_lost s x k = is_key_of_method k && is_base_interface s.old s.new x && inherits s.old x k && not (inherits s.new x k) && is_none (public_method_of_object s.old k)

lost_is : (s : SidesOf) (x : Bytes) (k : Key) → key_finding 9 s x k ≡ report_where (is_lost s x k) (on_key 9 x k) Inherit NoSuchMethodError
unfolding key_finding finding_at interface_method_lost
lost_is s x k = refl

-- ---- as the code tests it

either : (m b i j : Bool) (o : Option DeclaredMember) → b ≡ true → (m && b && i && not j && is_none o) ≡ (m && not (is_some o) && (i && not j))
either true true true true None h = refl
either true true true true (Some f) h = refl
either true true true false None h = refl
either true true true false (Some f) h = refl
either true true false j None h = refl
either true true false j (Some f) h = refl
either false true i j o h = refl
either m false i j o h = absurd (cc)

module _ (s : SidesOf) (x : Bytes) (k : Key) where
  pub lost : is_base_interface s.old s.new x ≡ true → (b : Bool) (o : Option BrokenOf) → b ≡ has_lost_method s x k → o ≡ broken_if b Inherit NoSuchMethodError → found (on_key 9 x k) o ≡ key_finding 9 s x k
  lost base b o e r =
      ap (found (on_key 9 x k)) r ∙ found_where (on_key 9 x k) b Inherit NoSuchMethodError ∙ ap (λ p. report_where p (on_key 9 x k) Inherit NoSuchMethodError)
      (e ∙ sym (either (is_key_of_method k) (is_base_interface s.old s.new x) (inherits s.old x k) (inherits s.new x k) (public_method_of_object s.old k) base)) ∙ sym (lost_is s x k)

  row_true : (i j r : Bool) → i ≡ true → r ≡ j → not r ≡ (i && not j)
  row_true true j r h e = ap not e
  row_true false j r h e = absurd (cc)

  row_false : (i j r : Bool) → r ≡ i → r ≡ false → r ≡ (i && not j)
  row_false true j r e h = absurd (cc)
  row_false false j r e h = e

  pub lost_then : (r q : Bool) → r ≡ inherits s.old x k → r ≡ true → q ≡ inherits s.new x k → not q ≡ loses s x k
  lost_then r q a t b = row_true (inherits s.old x k) (inherits s.new x k) q (sym a ∙ t) b

  pub lost_else : (r : Bool) → r ≡ inherits s.old x k → r ≡ false → r ≡ loses s x k
  lost_else r a t = row_false (inherits s.old x k) (inherits s.new x k) r a t

-- the loss is asked first, which tells nothing where java/lang/Object has the method, and then that
asked_last : (m l L b : Bool) → (b ≡ false → l ≡ L) → (m && l && not b) ≡ (m && not b && L)
asked_last false l L b h = refl
asked_last true true L true h = refl
asked_last true false L true h = refl
asked_last true l L false h = go l L (h refl)
  where
    go : (i j : Bool) → i ≡ j → (i && true) ≡ j
    go true j e = e
    go false j e = e

pub lost_apart : (s : SidesOf) (x : Bytes) (k : Key) (i l b : Bool) → is_key_of_method k ≡ not i → (public_method_of_object s.old k ≡ None → l ≡ loses s x k) → b ≡ is_some (public_method_of_object s.old k) → (not i && l && not b) ≡ has_lost_method s x k
lost_apart s x k i l b m h e =
    ap (λ (t : Bool). t && l && not b) (sym m) ∙ ap (λ (t : Bool). is_key_of_method k && l && not t) e
    ∙ asked_last (is_key_of_method k) l (loses s x k) (is_some (public_method_of_object s.old k)) (λ n. h (none_from (public_method_of_object s.old k) n))

-- ---- what an interface inherits, by what the lookup from it finds

module _ (W : World) (x : Bytes) (c : ClassFacts) (there : find_class W x ≡ Some c) (loads : load_fault W x ≡ None) (k : Key) (apart : public_method_of_object W k ≡ None) where
  inherits_is : inherits W x k ≡ (offers k c || list_any (offers k) (superinterfaces W x))
  unfolding inherits
  inherits_is = rw there refl

  choices_of : (o : Option Member) → own_method_of c k ≡ o → interface_choices W x k ≡ or_choices (found_in c o) (superinterface_choices W x k)
  unfolding interface_choices and_then or_else found_in
  choices_of None e = rw (there, e, apart) refl
  choices_of (Some m) e = rw (there, e) refl

  none_above : superinterface_choices W x k ≡ [] → (b : Bool) → list_any (offers k) (superinterfaces W x) ≡ b → b ≡ false
  none_above e true h =
      let i : IsCons (superinterface_choices W x k) = choices-some W x k h in
      let ms : List DeclaredMember = i.head ∷ i.tail in
      absurd (let z : [] ≡ ms = sym e ∙ i.is in cc)
  none_above e false h = refl

  -- nothing is found
  pub inherits_none : IsChoice W None (interface_choices W x k) → false ≡ inherits W x k
  unfolding or_choices found_in
  inherits_none h = sym (inherits_is ∙ go (own_method_of c k) refl)
    where
      go : (o : Option Member) → own_method_of c k ≡ o → (some_and is_inheritable o || list_any (offers k) (superinterfaces W x)) ≡ false
      go None e = none_above (sym (choices_of None e) ∙ h) (list_any (offers k) (superinterfaces W x)) refl
      go (Some m) e =
          let w : DeclaredMember = record { owner = c.name; member = m } in
          let ms : List DeclaredMember = w ∷ [] in
          absurd (let z : ms ≡ [] = sym (choices_of (Some m) e) ∙ h in cc)

  only : (n m : DeclaredMember) → Contains (n ∷ []) m → n ≡ m
  only n m h = go (cases n [] m h)
    where
      go : (n ≡ m) ⊎ Contains [] m → n ≡ m
      go (inl i) = i
      go (inr h) = absurd (none m h)

  -- its own method is what is found
  own_flags : (m : Member) → own_method_of c k ≡ Some m → (f : Found) → IsChoice W (Some f) (interface_choices W x k) → f.flags ≡ m.flags
  unfolding or_choices found_in
  own_flags m e f h =
      let w : DeclaredMember = record { owner = c.name; member = m } in
      h.2.flags ∙ ap (λ (d : DeclaredMember). d.member.flags) (sym (only w h.0 (subst (λ (ms : List DeclaredMember). Contains ms h.0) (choices_of (Some m) e) h.1)))

  -- what is found is inherited
  pub inherits_found : (f : Found) → IsChoice W (Some f) (interface_choices W x k) → (no_static_flag f.flags && not (private_flag f.flags)) ≡ true → true ≡ inherits W x k
  unfolding or_choices found_in
  inherits_found f h t = sym (inherits_is ∙ go (own_method_of c k) refl)
    where
      cons_of : (ms : List DeclaredMember) (m : DeclaredMember) → Contains ms m → IsCons ms
      cons_of [] m d = absurd (none m d)
      cons_of (n ∷ ns) m d = record { head = n; tail = ns; is = refl }

      go : (o : Option Member) → own_method_of c k ≡ o → (some_and is_inheritable o || list_any (offers k) (superinterfaces W x)) ≡ true
      go None e = choices-offers W x k (cons_of (superinterface_choices W x k) h.0 (subst (λ (ms : List DeclaredMember). Contains ms h.0) (choices_of None e) h.1))
      go (Some m) e = or_left (is_inheritable m) (list_any (offers k) (superinterfaces W x)) (ap (λ n. no_static_flag n && not (private_flag n)) (sym (own_flags m e f h)) ∙ t)

  -- what is found is its own and isn't inherited
  pub inherits_over : (f : Found) → IsChoice W (Some f) (interface_choices W x k) → (no_static_flag f.flags && not (private_flag f.flags)) ≡ false → (o : Option Found) → FindsAbove W x (candidate_at W k) o → is_some o ≡ inherits W x k
  inherits_over f h t o a = offered W x loads k o a ∙ sym (inherits_is ∙ go (own_method_of c k) refl)
    where
      go : (o : Option Member) → own_method_of c k ≡ o → (some_and is_inheritable o || list_any (offers k) (superinterfaces W x)) ≡ list_any (offers k) (superinterfaces W x)
      go None e = refl
      go (Some m) e = ap (λ b. b || list_any (offers k) (superinterfaces W x)) (ap (λ n. no_static_flag n && not (private_flag n)) (sym (own_flags m e f h)) ∙ t)

-- both sides have one java/lang/Object
root_alike : (s : SidesOf) → AreSides s → find_class s.old object_name ≡ find_class s.new object_name
root_alike s are =
    root_at s.old are.old_side ∙ sym are.old_side.root.is_there ∙ ap (λ (cs : List ClassFacts). class_named cs object_name) are.run.platform ∙ are.new_side.root.is_there ∙ sym (root_at s.new are.new_side)

pub apart_now : (s : SidesOf) → AreSides s → (k : Key) → public_method_of_object s.old k ≡ None → public_method_of_object s.new k ≡ None
unfolding public_method_of_object
apart_now s are k h = ap (λ (o : Option ClassFacts). and_then if_public_instance (and_then (declared_method k) o)) (sym (root_alike s are)) ∙ h

-- ---- methods of java/lang/Object

module _ (W : World) (k : Key) where
  pub no_root : id_of W object_name ≡ None → false ≡ is_some (public_method_of_object W k)
  unfolding public_method_of_object and_then
  no_root e = let f : find_class W object_name ≡ None = find-None W object_name e in rw f refl

  module _ (c : ClassFacts) (n : ℕ) (e : id_of W object_name ≡ Some n) (f : Some c ≡ find_class W (name_at W n)) where
    root : Some c ≡ find_class W object_name
    root = f ∙ ap (find_class W) (id_of-Some W object_name n e).1

    pub not_declared : None ≡ own_method_of c k → false ≡ is_some (public_method_of_object W k)
    unfolding public_method_of_object and_then found_in
    not_declared o = rw (← root, ← o) refl

    declared : (m : Member) → Some m ≡ own_method_of c k → is_some (public_method_of_object W k) ≡ (public_flag m.flags && no_static_flag m.flags)
    unfolding public_method_of_object and_then found_in if_public_instance
    declared m o = rw (← root, ← o) (go (public_flag m.flags && no_static_flag m.flags))
      where
        go : (b : Bool) → is_some {T = DeclaredMember} (cond b (Some (record { owner = c.name; member = m })) None) ≡ b
        go true = refl
        go false = refl

    and_public : (p q : Bool) → p ≡ true → (p && q) ≡ q
    and_public true q h = refl
    and_public false q h = absurd (cc)

    pub declared_public : (m : Member) (r : Bool) → Some m ≡ own_method_of c k → public_flag m.flags ≡ true → r ≡ static_flag m.flags → not r ≡ is_some (public_method_of_object W k)
    declared_public m r o p q = ap not q ∙ sym (declared m o ∙ and_public (public_flag m.flags) (no_static_flag m.flags) p)

    pub declared_hidden : (m : Member) (r : Bool) → Some m ≡ own_method_of c k → r ≡ public_flag m.flags → r ≡ false → r ≡ is_some (public_method_of_object W k)
    declared_hidden m r o p h = h ∙ sym (declared m o ∙ and_left (public_flag m.flags) (no_static_flag m.flags) (sym p ∙ h))

-- ---- where it stands

record IsLost (s : SidesOf) (x : Bytes) (k : Key) : Type 0 where
  base : is_base_interface s.old s.new x ≡ true
  inherited : inherits s.old x k ≡ true
  gone : not (inherits s.new x k) ≡ true

lost_parts : (s : SidesOf) (x : Bytes) (k : Key) (f : Finding) → key_finding 9 s x k ≡ Some f → IsLost s x k
lost_parts s x k f h =
    let t = (report_where-some (is_lost s x k) (on_key 9 x k) Inherit NoSuchMethodError f (sym (lost_is s x k) ∙ h)).0 in
    let a = and_parts (is_key_of_method k && is_base_interface s.old s.new x && inherits s.old x k && not (inherits s.new x k)) (is_none (public_method_of_object s.old k)) t in
    let b = and_parts (is_key_of_method k && is_base_interface s.old s.new x && inherits s.old x k) (not (inherits s.new x k)) a.0 in
    let c = and_parts (is_key_of_method k && is_base_interface s.old s.new x) (inherits s.old x k) b.0 in
    let d = and_parts (is_key_of_method k) (is_base_interface s.old s.new x) c.0 in
    record { base = d.1; inherited = c.1; gone = b.1 }

-- a reference to the interface found a method of the key
pub of_methods : (s : SidesOf) (x : Bytes) → is_base_interface s.old s.new x ≡ true → OfPassing (key_finding 9 s x) (is_member members.OldMethods s x)
of_methods s x base k f e = inherits_is_found s.old k x (base_interface_parts s x base).interface (lost_parts s x k f e).inherited

-- nothing is lost where all lookups are as they were
of_none : (s : SidesOf) (x : Bytes) → is_base_interface s.old s.new x ≡ true → LooksTheSame s.old s.new x → OfPassing (key_finding 9 s x) (λ k. false)
unfolding inherits
of_none s x base same k f e =
    let both = (base_interface_parts s x base).both in
    let c = loads-found s.old x both.loads in
    let d = loads-found s.new x both.loads_now in
    let p = lost_parts s x k f e in
    let chains : c.0 ∷ of_super (chain s.old) c.0.superclass ≡ d.0 ∷ of_super (chain s.new) d.0.superclass = sym (chain-unroll s.old x c.0 c.1 both.loads) ∙ same.chain ∙ chain-unroll s.new x d.0 d.1 both.loads_now in
    let one : c.0 ≡ d.0 = cc in
    let there : find_class s.old x ≡ find_class s.new x = c.1 ∙ ap (λ (b : ClassFacts). Some b) one ∙ sym d.1 in
    let alike : inherits s.old x k ≡ inherits s.new x k =
    ap (λ (cs : List ClassFacts). list_any (offers k) (itself_and cs (find_class s.old x))) same.superinterfaces ∙ ap (λ (o : Option ClassFacts). list_any (offers k) (itself_and (superinterfaces s.new x) o)) there in
    absurd (both_ways (not (inherits s.new x k)) (ap not (sym alike ∙ p.inherited)) p.gone)

abbrev on_9 : IsOnKey 9
on_9 = record { not_1 = refl; not_2 = refl; not_3 = refl; not_4 = refl }

pub is_rule : IsItemRule finding_order (λ (f : Finding). f.«class») (key_finding 9) (IsFinding 9) changed_interface
is_rule = finding_of_changed (λ s x. is_base_interface s.old s.new x) interface_unkept 9 on_9 (λ s x k f e. (lost_parts s x k f e).base)
    (λ s are x is free. of_none s x is (looks_alike s are x free (base_interface_parts s x is).both.loads_now))
