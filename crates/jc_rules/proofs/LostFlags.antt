-- Flags of the classes that were lost, and of the hidden ones that matter.
use Rattle.std.proofs.Common.{◌≡◌, ℕ, ◌+◌, ◌<◌, ◌≤◌, Bool, true, false, not, ◌||◌, ◌&&◌, List, [], length, take, refl, sym, ◌∙◌, ap, subst}
use Rattle.std.specs.List.{list_any}
use Rattle.std.proofs.lemmas.Bool.{and_parts, or_left, or_right}
use Rattle.std.proofs.lemmas.List.{take_all}
use Rattle.std.proofs.lemmas.List.Folds.{list_any_at, list_any_more}
use Rattle.jc_acts.proofs.LostChains.{set_as}
use Rattle.jc_acts.proofs.SetFlags.{none_set}
use Rattle.jc_acts.specs.Touched.{AreSet, flag_at, left_chain_of}
use Rattle.jc_exposed.specs.declared.exposed.Exposed.{Exposed}
use Rattle.jc_exposed.specs.Exposed.{AreWanted}
use Rattle.jc_facts.specs.Names.{Bytes}
use Rattle.jc_facts.specs.world.Assignment.{is_interface_of}
use Rattle.jc_facts.specs.world.Hierarchy.{in_chain}
use Rattle.jc_facts.specs.world.World.{World, size}
use Rattle.jc_lemmas.proofs.Bools.{or_assoc}
use Rattle.jc_rules.specs.steps.Chains.{has_left_chain}
use Rattle.jc_rules.specs.steps.Losses.{IsCovered, changed_place, is_lost, loses, matters, was_interface}
use Rattle.jc_sides.specs.SidesOf.{SidesOf}
use Rattle.jc_index.proofs.Numbers.{names-length}
use Rattle.jc_index.specs.Ids.{name_at, names}

-- ---- what some class lost

-- the class x loses, and has lost y
abbrev pub lost_by : SidesOf → Bytes → Bytes → Bool
lost_by s y x = loses s x && left_chain_of s y x

pub by_loser : (s : SidesOf) (x : Bytes) (before after : List Bool) → loses s x ≡ true → AreSet s.old (λ y. left_chain_of s y x) before after → AreSet s.old (λ y. lost_by s y x) before after
by_loser s x before after h set = set_as s.old (λ y. left_chain_of s y x) (λ y. lost_by s y x) before after (λ y. sym (ap (λ b. b && left_chain_of s y x) h)) set

pub by_other : (s : SidesOf) (x : Bytes) (flags : List Bool) → length flags ≡ size s.old → loses s x ≡ false → AreSet s.old (λ y. lost_by s y x) flags flags
by_other s x flags e h = none_set s.old (λ y. lost_by s y x) flags e (λ y. ap (λ b. b && left_chain_of s y x) h)

-- flags that are set one after the other
set_then : (W : World) (p q : Bytes → Bool) (before flags after : List Bool) → AreSet W p before flags → AreSet W q flags after → AreSet W (λ y. p y || q y) before after
set_then W p q before flags after a b = record {
  count = b.count;
  each = λ n l. b.each n l ∙ ap (λ f. f || q (name_at W n)) (a.each n l) ∙ or_assoc (flag_at before n) (p (name_at W n)) (q (name_at W n));
}

-- the first n classes have lost y
abbrev pub lost_by_first : SidesOf → ℕ → Bytes → Bool
lost_by_first s n y = list_any (lost_by s y) (take n (names s.old))

pub lost_start : (s : SidesOf) (flags : List Bool) → length flags ≡ size s.old → AreSet s.old (lost_by_first s 0) flags flags
lost_start s flags e = none_set s.old (lost_by_first s 0) flags e (λ y. refl)

pub lost_next : (s : SidesOf) (n : ℕ) (before flags after : List Bool) → n < size s.old → AreSet s.old (lost_by_first s n) before flags → AreSet s.old (λ y. lost_by s y (name_at s.old n)) flags after
    → AreSet s.old (lost_by_first s (n + 1)) before after
lost_next s n before flags after l a b =
    set_as s.old (λ y. lost_by_first s n y || lost_by s y (name_at s.old n)) (lost_by_first s (n + 1)) before after
    (λ y. sym (list_any_more (lost_by s y) (names s.old) n [] (subst (λ m. n < m) (sym (names-length s.old)) l)))
    (set_then s.old (lost_by_first s n) (λ y. lost_by s y (name_at s.old n)) before flags after a b)

pub lost_all : (s : SidesOf) (n : ℕ) (before flags : List Bool) → size s.old ≤ n → AreSet s.old (lost_by_first s n) before flags → AreSet s.old (is_lost s) before flags
lost_all s n before flags l a =
    set_as s.old (lost_by_first s n) (is_lost s) before flags (λ y. ap (list_any (lost_by s y)) (take_all n (names s.old) (subst (λ m. m ≤ n) (sym (names-length s.old)) l))) a

-- ---- which are covered

module _ (s : SidesOf) (e : Exposed) (wanted : AreWanted s (λ n. matters s (name_at s.old n)) e) where
  covered : (n : ℕ) → n < size s.old → (changed_place s (name_at s.old n) || loses s (name_at s.old n)) ≡ true → IsCovered s.old e n
  covered n l h hidden = wanted n l (ap (λ b. b && (changed_place s (name_at s.old n) || loses s (name_at s.old n))) hidden ∙ h)

  pub of_interface : (n : ℕ) → n < size s.old → was_interface s (name_at s.old n) ≡ true → IsCovered s.old e n
  of_interface n l h =
      let x : Bytes = name_at s.old n in
      covered n l (or_left (changed_place s x) (loses s x) (or_left (was_interface s x) (is_lost s x) h))

  pub of_loser : (n : ℕ) → n < size s.old → loses s (name_at s.old n) ≡ true → IsCovered s.old e n
  of_loser n l h = covered n l (or_right (changed_place s (name_at s.old n)) (loses s (name_at s.old n)) h)

  -- the class of number n has lost the one of number t
  pub of_lost : (n t : ℕ) → n < size s.old → t < size s.old → loses s (name_at s.old n) ≡ true → in_chain s.old (name_at s.old n) (name_at s.old t) ≡ true → has_left_chain s (name_at s.old n) (name_at s.old t) ≡ true → IsCovered s.old e t
  of_lost n t l k h w f =
      let x : Bytes = name_at s.old n in
      let y : Bytes = name_at s.old t in
      let gone : not (in_chain s.new x y) ≡ true = (and_parts (not (in_chain s.new x y)) (not (is_interface_of s.new y)) f).0 in
      let lost : lost_by s y x ≡ true = rw (h, w, gone) refl in
      let one : is_lost s y ≡ true = list_any_at (lost_by s y) (names s.old) n [] (subst (λ m. n < m) (sym (names-length s.old)) l) lost in
      covered t k (or_left (changed_place s y) (loses s y) (or_right (was_interface s y) (is_lost s y) one))
