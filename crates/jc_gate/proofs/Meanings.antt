-- What gates have seen, by what they keep of it.
--     marked_gate      one whose state is marked by some rules
--     few_gate      one whose state falls with each rule
use Rattle.std.proofs.Common.{◌≡◌, ◌-◌, ◌+◌, ◌||◌, not, ℕ, suc, Bool, true, false, List, [], ◌∷◌, Option, Some, None, length, nat_le, nat_lt, refl, ap, ◌∙◌, arith}
use Rattle.std.specs.Prelude.{nat_eq, if◌then◌else◌}
use Rattle.std.specs.List.{list_any}
use Rattle.jc_gate.specs.Gates.{GateOf}
use Rattle.jc_gate.specs.Meanings.{IsGateBy, has_at_most}
use Rattle.jc_gate.specs.Seen.{seen, informed_by}

-- what passes a step over
unmoved : (state : ℕ) (step : Option ℕ) → informed_by (λ s n. s) state step ≡ state
unmoved state None = refl
unmoved state (Some n) = refl

module _ (is_meant : ℕ → Bool) where
  abbrev mark : ℕ → ℕ → ℕ
  mark state rule = if is_meant rule then 1 else state

  stays : (rules : List ℕ) → seen mark 1 rules ≡ 1
  stays [] = refl
  stays (r ∷ rs) = go (is_meant r) (stays rs)
    where
      go : (b : Bool) → seen mark 1 rs ≡ 1 → seen mark (if b then 1 else 1) rs ≡ 1
      go true e = e
      go false e = e

  none_marked : (rules : List ℕ) → nat_eq (seen mark 0 rules) 0 ≡ not (list_any is_meant rules)
  none_marked [] = refl
  none_marked (r ∷ rs) = go (is_meant r) (none_marked rs)
    where
      go : (b : Bool) → nat_eq (seen mark 0 rs) 0 ≡ not (list_any is_meant rs) → nat_eq (seen mark (if b then 1 else 0) rs) 0 ≡ not (b || list_any is_meant rs)
      go true e = ap (λ s. nat_eq s 0) (stays rs)
      go false e = e

  pub marked_gate : (name : List ℕ) (g : GateOf) → g.label ≡ name → ((step : Option ℕ) (rules : List ℕ) → g.passes step rules ≡ nat_eq (seen mark (informed_by (λ s n. s) 0 step) rules) 0)
      → IsGateBy name (λ rules. not (list_any is_meant rules)) g
  marked_gate name g named meanings = record { named = named; passes = λ step rules. meanings step rules ∙ ap (λ state. nat_eq (seen mark state rules) 0) (unmoved 0 step) ∙ none_marked rules }

falls : (state : ℕ) (rules : List ℕ) → seen (λ s r. s - 1) state rules ≡ state - length rules
falls state [] = omega arith
falls state (r ∷ rs) = falls (state - 1) rs ∙ less state (length rs)
  where
    less : (a b : ℕ) → a - 1 - b ≡ a - suc b
    less a b = omega arith

few_left : (limit : ℕ) (rules : List ℕ) → nat_lt 0 (seen (λ s r. s - 1) (limit + 1) rules) ≡ nat_le (length rules) limit
few_left limit rules = ap (nat_lt 0) (falls (limit + 1) rules) ∙ some limit (length rules)
  where
    some : (a b : ℕ) → nat_lt 0 (a + 1 - b) ≡ nat_le b a
    some a b = grind arith

pub few_gate : (limit : ℕ) (name : List ℕ) (g : GateOf) → g.label ≡ name → ((step : Option ℕ) (rules : List ℕ) → g.passes step rules ≡ nat_lt 0 (seen (λ s r. s - 1) (informed_by (λ s n. s) (limit + 1) step) rules))
    → IsGateBy name (has_at_most limit) g
few_gate limit name g named meanings = record {
  named = named;
  passes = λ step rules. meanings step rules ∙ ap (λ state. nat_lt 0 (seen (λ s r. s - 1) state rules)) (unmoved (limit + 1) step) ∙ few_left limit rules;
}
