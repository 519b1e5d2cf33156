-- Two sides have a list of the interfaces that classes drop: what stands on their subjects, in order. There is one.
--     some_dropped      there is a list
--     dropped_are_one      there is no other
--     dropped_on, dropped_one, dropped_few      what is reported of it
use Rattle.std.proofs.Common.{◌≡◌, ◌≤◌, ◌∙◌, ◌==◌, ◌⊎◌, inl, inr, Bool, true, false, cond, ◌&&◌, ℕ, List, [], ◌∷◌, length, Option, Some, None, refl, sym, ap, subst}
use Rattle.std.specs.Prelude.{IsTrue}
use Rattle.std.specs.List.{Contains, filter_map}
use Rattle.std.specs.Cmp.{IsTotalOrder, then_total, on_total, first_so, second_so}
use Rattle.std.specs.Cmp.Lexicographic.{nat_list_cmp_total}
use Rattle.std.proofs.lemmas.Bool.{or_cases, eqb-true}
use Rattle.std.proofs.lemmas.List.Elements.{Contains-append_left}
use Rattle.jc_facts.specs.declared.dropped.Dropped.{Dropped}
use Rattle.jc_dropped.specs.Dropped.{asks_for, has_lost, loses_interface, is_dropped, dropped_order, IsDropped, AreDropped}
use Rattle.jc_facts.specs.declared.class_facts.ClassFacts.{ClassFacts}
use Rattle.jc_facts.specs.declared.key.Key.{Key}
use Rattle.jc_facts.specs.Exactly.{HasExactly}
use Rattle.jc_facts.specs.Names.{Bytes, same}
use Rattle.jc_promises.specs.rule.Findings.{Subject}
use Rattle.jc_facts.specs.world.Hierarchy.{chain, chain_step, interfaces_of, superinterfaces, is_superinterface, names_in}
use Rattle.jc_facts.specs.world.World.{World, classes, find_class, size}
use Rattle.jc_facts.proofs.InOrder.{exact_same}
use Rattle.jc_facts.proofs.Same.{same_is}
use Rattle.jc_facts.proofs.World.{find-name}
use Rattle.jc_lemmas.proofs.Listed.{EachOf}
use Rattle.jc_worlds.proofs.Descent.{descend-absent}
use Rattle.jc_sound.proofs.ExactLists.{exact_list}
use Rattle.jc_sound.proofs.VerdictLaw.{exactly_one}
use Rattle.jc_sides.proofs.Subjects.{subject_order}
use Rattle.jc_commands.specs.DroppedPart.{AreAskedDropped}
use Rattle.jc_releases.specs.declared.limits.TheConstants.{MAX_DROPPED}
use Rattle.jc_commands.proofs.Declarations.{found_in_world, super_all}
use Rattle.jc_commands.proofs.Subjects.{on_subject, is_rule, none_or, names, keys, name_of, subjects, covered}

-- ---- dropped interfaces by subject

abbrev dropped_subject : Dropped → Subject
dropped_subject d = on_subject 0 d.«class» None (Some d.interface)

dropped_ordered : (d e : Dropped) → subject_order (dropped_subject d) (dropped_subject e) ≡ dropped_order d e
dropped_ordered d e = refl

abbrev dropped_of : Bytes → Bytes → Dropped
dropped_of x t = record { «class» = x; interface = t }

-- a class of these is named by one of the world
named_among : (all cs : List ClassFacts) (t : Bytes) → EachOf (Contains all) cs → names_in cs t ≡ true → (c : ClassFacts) × Contains all c × (same c.name t ≡ true)
named_among all [] t h e = absurd (let clash : false ≡ true = e in cc)
named_among all (c ∷ cs) t h e = go (or_cases (same c.name t) (names_in cs t) e) (named_among all cs t h.1)
  where
    go : (same c.name t ≡ true) ⊎ (names_in cs t ≡ true) → (names_in cs t ≡ true → (d : ClassFacts) × Contains all d × (same d.name t ≡ true)) → (d : ClassFacts) × Contains all d × (same d.name t ≡ true)
    go (inl p) r = (c, h.0, p)
    go (inr q) r = r q

module _ (O N : World) where
  abbrev dropped_by : Subject → Option Key → Option Bytes → Option Dropped
  dropped_by s None (Some t) = cond (s.rule == 0) (cond (is_dropped O N s.«class» t) (Some (dropped_of s.«class» t)) None) None
  dropped_by s None None = None
  dropped_by s (Some k) t = None

  abbrev dropped_here : Subject → Option Dropped
  dropped_here s = dropped_by s s.key s.target

  dropped_is_on : (s : Subject) (d : Dropped) → dropped_here s ≡ Some d → dropped_subject d ≡ s
  dropped_is_on s d e = go s.key refl s.target refl e
    where
      of_class : (t : Bytes) (b c : Bool) → (s.rule == 0) ≡ b → s.key ≡ None → s.target ≡ Some t → cond b (cond c (Some (dropped_of s.«class» t)) None) None ≡ Some d → dropped_subject d ≡ s
      of_class t true true p k q r =
          let is : dropped_of s.«class» t ≡ d = cc in
          ap dropped_subject (sym is)
          ∙ sym (ap (λ (m : ℕ). on_subject m s.«class» s.key s.target) (eqb-true s.rule 0 p) ∙ ap (λ (o : Option Key). on_subject 0 s.«class» o s.target) k ∙ ap (λ (o : Option Bytes). on_subject 0 s.«class» None o) q)
      of_class t true false p k q r = absurd (let clash : None ≡ Some d = r in cc)
      of_class t false c p k q r = absurd (let clash : None ≡ Some d = r in cc)

      go : (k : Option Key) → s.key ≡ k → (t : Option Bytes) → s.target ≡ t → dropped_by s k t ≡ Some d → dropped_subject d ≡ s
      go None p (Some t) q r = of_class t (s.rule == 0) (is_dropped O N s.«class» t) refl p q r
      go None p None q r = absurd (let clash : None ≡ Some d = r in cc)
      go (Some k) p t q r = absurd (let clash : None ≡ Some d = r in cc)

  dropped_stands : (d : Dropped) → dropped_here (dropped_subject d) ≡ Some d → IsDropped O N d
  dropped_stands d e = go (is_dropped O N d.«class» d.interface) e
    where
      go : (b : Bool) → cond b (Some (dropped_of d.«class» d.interface)) None ≡ Some d → b ≡ true
      go true q = refl
      go false q = absurd (let clash : None ≡ Some d = q in cc)

  dropped_found : (d : Dropped) → IsDropped O N d → dropped_here (dropped_subject d) ≡ Some d
  dropped_found d h = ap (λ (b : Bool). cond b (Some (dropped_of d.«class» d.interface)) None) h

  -- it was above the class on the old side
  was_above : (d : Dropped) → IsDropped O N d → is_superinterface O d.«class» d.interface ≡ true
  unfolding is_dropped loses_interface has_lost
  was_above d h =
      let loses = first_so (loses_interface O N d.«class» d.interface) _ h in
      let lost = second_so _ (has_lost O N d.«class» d.interface) loses in
      second_so (asks_for O N d.«class» d.interface) (is_superinterface O d.«class» d.interface) (first_so (asks_for O N d.«class» d.interface && is_superinterface O d.«class» d.interface) _ lost)

  nothing_above : (x t : Bytes) → find_class O x ≡ None → is_superinterface O x t ≡ false
  unfolding superinterfaces interfaces_of chain
  nothing_above x t e = ap (λ (cs : List ClassFacts). names_in (interfaces_of O cs) t) (descend-absent O [] [] chain_step (size O) x e)

  class_found : (x t : Bytes) → is_superinterface O x t ≡ true → (c : ClassFacts) × (find_class O x ≡ Some c)
  class_found x t e = go (find_class O x) refl
    where
      go : (o : Option ClassFacts) → find_class O x ≡ o → (c : ClassFacts) × (find_class O x ≡ Some c)
      go (Some c) p = (c, p)
      go None p = absurd (let clash : false ≡ true = sym (nothing_above x t p) ∙ e in cc)

  dropped_covered : (d : Dropped) → dropped_here (dropped_subject d) ≡ Some d → Contains (subjects O N).items (dropped_subject d)
  dropped_covered d e =
      let above = was_above d (dropped_stands d e) in
      let c = class_found d.«class» d.interface above in
      let t = named_among (classes O) (superinterfaces O d.«class») d.interface (super_all O d.«class») above in
      covered O N (dropped_subject d) (is_rule 0 refl)
      (name_of O N d.«class» c.0 (Contains-append_left (classes O) (classes N) c.0 (found_in_world O d.«class» c.0 c.1)) (find-name O d.«class» c.0 c.1))
      (none_or (keys O N) None (λ k is. absurd (let clash : None ≡ Some k = is in cc)))
      (none_or (names O N) (Some d.interface) (λ u is. let one : d.interface ≡ u = cc in subst (Contains (names O N)) one
      (name_of O N d.interface t.0 (Contains-append_left (classes O) (classes N) t.0 t.1) (same_is t.0.name d.interface t.2))))

  abbrev all_dropped : List Dropped
  all_dropped = filter_map dropped_here (subjects O N).items

  pub some_dropped : (ds : List Dropped) × AreDropped O N ds
  some_dropped = (
    all_dropped,
    exact_same dropped_order (λ d. dropped_here (dropped_subject d) ≡ Some d) (IsDropped O N) all_dropped dropped_stands dropped_found
        (subst (λ order. HasExactly order (λ d. dropped_here (dropped_subject d) ≡ Some d) all_dropped) (λ i d e. dropped_ordered d e i)
        (exact_list subject_order dropped_here dropped_subject dropped_is_on (subjects O N).items (subjects O N).in_order (λ d e. dropped_covered d e))),
  )

-- ---- there is one list

dropped_total : IsTotalOrder dropped_order
dropped_total = then_total (on_total (λ (d : Dropped). d.«class») nat_list_cmp_total) (on_total (λ (d : Dropped). d.interface) nat_list_cmp_total)

pub dropped_are_one : (O N : World) (ds es : List Dropped) → AreDropped O N ds → AreDropped O N es → ds ≡ es
dropped_are_one O N ds es a b = exactly_one dropped_order dropped_total (IsDropped O N) ds es a b

-- ---- what is reported

pub dropped_on : (b : Bool) (O N : World) → (IsTrue b → (ds : List Dropped) → AreDropped O N ds → length ds ≤ MAX_DROPPED) → (o : Option (List Dropped)) × AreAskedDropped b O N o
dropped_on false O N few = (None, tt)
dropped_on true O N few = let ds = some_dropped O N in (Some ds.0, (ds.1, few refl ds.0 ds.1))

pub dropped_few : (b : Bool) (O N : World) (o : Option (List Dropped)) → AreAskedDropped b O N o → IsTrue b → (ds : List Dropped) → AreDropped O N ds → length ds ≤ MAX_DROPPED
dropped_few true O N (Some es) h w ds k = subst (λ (xs : List Dropped). length xs ≤ MAX_DROPPED) (dropped_are_one O N es ds h.0 k) h.1
dropped_few true O N None h w ds k = absurd h
dropped_few false O N o h w ds k = absurd (let clash : false ≡ true = w in cc)

pub dropped_one : (b : Bool) (O N : World) (p q : Option (List Dropped)) → AreAskedDropped b O N p → AreAskedDropped b O N q → p ≡ q
dropped_one true O N (Some ds) (Some es) h k = ap (λ (xs : List Dropped). Some xs) (dropped_are_one O N ds es h.0 k.0)
dropped_one true O N (Some ds) None h k = absurd k
dropped_one true O N None q h k = absurd h
dropped_one false O N None None h k = refl
dropped_one false O N None (Some es) h k = absurd k
dropped_one false O N (Some ds) q h k = absurd h
