-- What a rule on a class alone finds of all classes.
use Rattle.std.proofs.Common.{◌≡◌, ◌<◌, ◌≤◌, ◌+◌, ◌++◌, ◌∷◌, [], ℕ, true, List, length, Option, sym, ◌∙◌, ap, subst, Some, take, drop, nat_lt}
use Rattle.std.specs.List.{All, Contains, filter_map, cons_option}
use Rattle.std.specs.declared.cmp.Ordering.TheVariants.{Less}
use Rattle.std.proofs.lemmas.List.{take_more, take_all, take-append-drop}
use Rattle.std.proofs.lemmas.List.Elements.{All-contains_itself, All-weaker, filter_map-append}
use Rattle.jc_facts.specs.declared.finding.Finding.{Finding}
use Rattle.jc_facts.specs.Names.{Bytes}
use Rattle.jc_facts.specs.Exactly.{Before, NamesRise, Rises}
use Rattle.jc_facts.specs.Options.{some_where}
use Rattle.jc_facts.specs.world.World.{World, size}
use Rattle.jc_facts.specs.Orders.{finding_order}
use Rattle.jc_facts.specs.Exactly.{HasExactly}
use Rattle.jc_facts.proofs.Exact.{Gives, given_back}
use Rattle.jc_facts.proofs.Exactly.{rise_front}
use Rattle.jc_facts.proofs.Options.{some_where-is}
use Rattle.jc_facts.proofs.InOrder.{exact_given, given_rise}
use Rattle.jc_index.specs.Ids.{names, name_at}
use Rattle.jc_index.specs.Sides.{IsSide}
use Rattle.jc_index.proofs.Numbers.{names-rise, names-length}
use Rattle.jc_sides.specs.Limit.{HasMore, over}
use Rattle.jc_sides.specs.Rules.{on_class, class_finding, IsFinding, IsOnClass}
use Rattle.jc_sides.specs.SidesOf.{SidesOf, AreSides}
use Rattle.jc_sides.proofs.Subjects.{ordered_as, subject_class_before, of_rule, to_rule, class_in}

-- ---- loops over the numbers of a side's classes

-- one more number
pub step : {F : Type 0} (h : Bytes → Option F) (W : World) (n : ℕ) (fs gs : List F) (o : Option F) → n < size W → fs ≡ filter_map h (take n (names W)) → o ≡ h (name_at W n) → gs ≡ fs ++ cons_option o []
    → gs ≡ filter_map h (take (n + 1) (names W))
step h W n fs gs o l e k g =
    g ∙ ap (λ fs. fs ++ cons_option o []) e ∙ ap (λ p. filter_map h (take n (names W)) ++ cons_option p []) k
    ∙ sym (filter_map-append h (take n (names W)) (name_at W n ∷ []))
    ∙ ap (filter_map h) (sym (take_more (names W) n [] (subst (λ m. n < m) (sym (names-length W)) l)))

-- all numbers
pub whole : {F : Type 0} (h : Bytes → Option F) (W : World) (n : ℕ) (fs : List F) → size W ≤ n → fs ≡ filter_map h (take n (names W)) → fs ≡ filter_map h (names W)
whole h W n fs l e = e ∙ ap (filter_map h) (take_all n (names W) (subst (λ m. m ≤ n) (sym (names-length W)) l))

-- ---- a rule on a class alone

module _ (r : ℕ) (i : IsOnClass r) (s : SidesOf) where
  later : (x y : Bytes) (f g : Finding) → Before x y → class_finding r s x ≡ Some f → class_finding r s y ≡ Some g → finding_order f g ≡ Less
  later x y f g b e k = ordered_as (on_class r x) (on_class r y) f g (to_rule s r x f e).0 (to_rule s r y g k).0 (subject_class_before r x y b)

  class_exact : IsSide s.old → HasExactly finding_order (IsFinding r s) (filter_map (class_finding r s) (names s.old))
  class_exact side = exact_given finding_order (class_finding r s) later (IsFinding r s) (names s.old) (names-rise s.old side.differ) (λ x f c e. (to_rule s r x f e).1) complete
    where
      complete : (f : Finding) → IsFinding r s f → Gives (class_finding r s) (names s.old) f
      complete f p = record { place = f.«class»; is_in = class_in s r f p; gives = of_rule s r i f p }

  -- one more class; the table's world is the old side's
  pub one_more : (W : World) → W ≡ s.old → (n k : ℕ) (fs gs : List Finding) (o : Option Finding) → n < size W → some_where (nat_lt n (size W)) n ≡ Some k → fs ≡ filter_map (class_finding r s) (take n (names s.old))
      → o ≡ class_finding r s (name_at s.old k) → gs ≡ fs ++ cons_option o [] → gs ≡ filter_map (class_finding r s) (take (n + 1) (names s.old))
  one_more W v n k fs gs o l is e q g =
      step (class_finding r s) s.old n fs gs o (subst (λ (V : World). n < size V) v l) e (q ∙ ap (λ m. class_finding r s (name_at s.old m)) (some_where-is (nat_lt n (size W)) n k is)) g

  given_stand : (xs : List Bytes) → All (IsFinding r s) (filter_map (class_finding r s) xs)
  given_stand xs =
      All-weaker (Contains (filter_map (class_finding r s) xs)) (IsFinding r s) (λ f c. let g = given_back (class_finding r s) xs f c in (to_rule s r g.place f g.gives).1)
      (filter_map (class_finding r s) xs) (All-contains_itself (filter_map (class_finding r s) xs))

  -- the first classes alone give more than the limit allows
  pub past : AreSides s → (most : Option ℕ) (n : ℕ) (fs : List Finding) → fs ≡ filter_map (class_finding r s) (take n (names s.old)) → over (length fs) most ≡ true → HasMore finding_order (IsFinding r s) most
  past are most n fs e o = record {
    some = fs;
    in_order = subst (Rises finding_order) (sym e) (given_rise finding_order (class_finding r s) later (take n (names s.old))
        (rise_front (take n (names s.old)) (drop n (names s.old)) (subst (NamesRise (λ x. x)) (sym (take-append-drop n (names s.old))) (names-rise s.old are.old_side.differ))));
    stand = subst (All (IsFinding r s)) (sym e) (given_stand (take n (names s.old)));
    many = o;
  }

  -- all classes
  pub all_classes : AreSides s → (W : World) → W ≡ s.old → (n : ℕ) (fs : List Finding) → size W ≤ n → fs ≡ filter_map (class_finding r s) (take n (names s.old)) → HasExactly finding_order (IsFinding r s) fs
  all_classes are W v n fs l e =
      subst (HasExactly finding_order (IsFinding r s)) (sym (whole (class_finding r s) s.old n fs (subst (λ (V : World). size V ≤ n) v l) e)) (class_exact are.old_side)
