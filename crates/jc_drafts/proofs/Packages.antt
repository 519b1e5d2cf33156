-- The search for a package that no name is in.
use Rattle.std.proofs.Common.{◌≡◌, ℕ, suc, ◌+◌, ◌-◌, ◌<◌, ◌≤◌, Bool, true, false, cond, List, [], ◌∙◌, ap, ◌||◌, nat_eq, arith}
use Rattle.std.specs.List.{list_any, starts_with}
use Rattle.std.proofs.lemmas.List.Folds.{list_any-append}
use Rattle.jc_facts.specs.Names.{Bytes}
use Rattle.jc_facts.specs.world.World.{World, classes}
use Rattle.jc_facts.specs.world.Mentioned.{all_mentions, mentioned}
use Rattle.jc_promises.specs.plan.PlannedNames.{package_number, in_package, is_used, first_unused}
use Rattle.jc_index.specs.Mentioned.{mentions_front}
use Rattle.jc_complete.proofs.PlanReady.{any_mentions}

-- a name of one of the sides is in the package where one of that side begins with its front
pub used_either : (O N : World) (w : Bytes) → is_used (mentioned O N) w ≡ (mentions_front O (in_package w []) || mentions_front N (in_package w []))
used_either O N w =
    list_any-append p (all_mentions (classes O)) (all_mentions (classes N))
    ∙ ap (λ b. b || list_any p (all_mentions (classes N))) (any_mentions p (classes O))
    ∙ ap (λ b. mentions_front O (in_package w []) || b) (any_mentions p (classes N))
  where
    p : Bytes → Bool
    p x = starts_with nat_eq x (in_package w [])

-- the search goes on from a package in which some name is, and ends at one that is free
next_unused : (names : List Bytes) (tries n : ℕ) (b : Bool) → is_used names (package_number n) ≡ b → first_unused names (suc tries) n ≡ cond b (first_unused names tries (n + 1)) (package_number n)
unfolding first_unused
next_unused names tries n b e = ap (λ t. cond t (first_unused names tries (n + 1)) (package_number n)) e

-- as many tries are left as there are numbers
left : (count n : ℕ) → n < count → count - n ≡ suc (count - (n + 1))
left count n l = omega arith

pub go_on : (names : List Bytes) (count n : ℕ) → n < count → is_used names (package_number n) ≡ true → first_unused names (count - n) n ≡ first_unused names (count - (n + 1)) (n + 1)
go_on names count n l e = ap (λ t. first_unused names t n) (left count n l) ∙ next_unused names (count - (n + 1)) n true e

pub here_free : (names : List Bytes) (count n : ℕ) → n < count → is_used names (package_number n) ≡ false → first_unused names (count - n) n ≡ package_number n
here_free names count n l e = ap (λ t. first_unused names t n) (left count n l) ∙ next_unused names (count - (n + 1)) n false e

pub at_end : (names : List Bytes) (count n : ℕ) → count ≤ n → first_unused names (count - n) n ≡ package_number n
unfolding first_unused
at_end names count n l = ap (λ t. first_unused names t n) (none count n l)
  where
    none : (count n : ℕ) → count ≤ n → count - n ≡ 0
    none count n l = omega arith
