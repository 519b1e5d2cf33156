-- What the gate of the versions answers.
--     state_parts      the need and the step of a state
--     version_gate      the gate before it is told a step
use Rattle.std.proofs.Common.{◌≡◌, ◌≤◌, ◌<◌, ◌||◌, ℕ, Bool, true, false, List, [], ◌∷◌, Option, Some, None, nat_le, arith, rules, refl, sym, ap, ◌∙◌}
use Rattle.std.specs.Prelude.{codes, max, if◌then◌else◌}
use Rattle.std.specs.List.{list_any, filter}
use Rattle.std.specs.Str.{bytes_eq}
use Rattle.jc_gate.proofs.Alone.{passes_alone}
use Rattle.jc_gate.specs.declared.told.Told.{Told}
use Rattle.jc_gate.specs.Gates.{GateOf, told_to, all_pass}
use Rattle.jc_gate.specs.Rules.{is_of_finding, is_of_collision}
use Rattle.jc_gate.specs.Seen.{seen, informed_by}
use Rattle.jc_version.specs.Needs.{need_of_rule, need_of, state_by, need_in, step_in, informed_version, after_version, passes_version, IsVersionGate}

pub need_of_state : (n s : ℕ) → s < 4 → need_in (state_by n s) ≡ n
need_of_state n s l = omega arith

pub step_of_state : (n s : ℕ) → s < 4 → step_in (state_by n s) ≡ s
step_of_state n s l = omega arith

-- ---- the rules

need_bounds : (rules : List ℕ) → (1 ≤ need_of rules) × (need_of rules ≤ 3)
need_bounds rules = by (list_any is_of_finding rules) (list_any is_of_collision rules)
  where
    by : (a b : Bool) → (1 ≤ (if a then 3 else if b then 2 else 1)) × ((if a then 3 else if b then 2 else 1) ≤ 3)
    by true b = (omega arith, omega arith)
    by false true = (omega arith, omega arith)
    by false false = (omega arith, omega arith)

-- the need of one more rule
need_more : (rule : ℕ) (rules : List ℕ) → need_of (rule ∷ rules) ≡ max (need_of_rule rule) (need_of rules)
need_more rule rules = by (is_of_finding rule) (is_of_collision rule) (list_any is_of_finding rules) (list_any is_of_collision rules)
  where
    by : (a b c d : Bool) → (if a || c then 3 else if b || d then 2 else 1) ≡ max (if a then 3 else if b then 2 else 1) (if c then 3 else if d then 2 else 1)
    by true b true d = refl
    by true b false true = refl
    by true b false false = refl
    by false true true d = refl
    by false true false true = refl
    by false true false false = refl
    by false false true d = refl
    by false false false true = refl
    by false false false false = refl

-- what the gate has once it saw the rules
saw : (n s : ℕ) (rules : List ℕ) → 1 ≤ n → n ≤ 3 → s < 4 → seen after_version (state_by n s) rules ≡ state_by (max n (need_of rules)) s
saw n s [] least most l = ap (λ m. state_by m s) (largest n least)
  where
    largest : (n : ℕ) → 1 ≤ n → n ≡ max n 1
    largest n least = omega arith
saw n s (rule ∷ rules) least most l =
    let step : after_version (state_by n s) rule ≡ state_by (max n (need_of_rule rule)) s = rw (need_of_state n s l, step_of_state n s l) refl in
    let bounds = rule_bounds rule in
    ap (λ state. seen after_version state rules) step
    ∙ saw (max n (need_of_rule rule)) s rules (at_least n (need_of_rule rule) least) (at_most n (need_of_rule rule) most bounds) l
    ∙ ap (λ m. state_by m s) (largest n (need_of_rule rule) (need_of rules) ∙ ap (max n) (sym (need_more rule rules)))
  where
    rule_bounds : (rule : ℕ) → need_of_rule rule ≤ 3
    rule_bounds rule = by (is_of_finding rule) (is_of_collision rule)
      where
        by : (a b : Bool) → (if a then 3 else if b then 2 else 1) ≤ 3
        by true b = omega arith
        by false true = omega arith
        by false false = omega arith

    at_least : (a b : ℕ) → 1 ≤ a → 1 ≤ max a b
    at_least a b h = omega arith

    at_most : (a b : ℕ) → a ≤ 3 → b ≤ 3 → max a b ≤ 3
    at_most a b h k = omega arith

    largest : (a b c : ℕ) → max (max a b) c ≡ max a (max b c)
    largest a b c = omega arith

-- ---- the gate

informed_passes : (step : ℕ) (rules : List ℕ) → 1 ≤ step → step ≤ 3 → passes_version (seen after_version (informed_version 4 step) rules) ≡ nat_le (need_of rules) step
informed_passes step rules least most =
    let l : step < 4 = omega (arith, most) in
    let b = need_bounds rules in
    let n : max 1 (need_of rules) ≡ need_of rules = largest (need_of rules) b.0 in
    ap passes_version (saw 1 step rules (omega arith) (omega arith) l ∙ ap (λ m. state_by m step) n)
    ∙ rw (need_of_state (need_of rules) step l, step_of_state (need_of rules) step l) refl
  where
    largest : (n : ℕ) → 1 ≤ n → max 1 n ≡ n
    largest n h = omega arith

uninformed_fails : (rules : List ℕ) → passes_version (seen after_version 4 rules) ≡ false
uninformed_fails rules =
    let b = need_bounds rules in
    ap passes_version (saw 1 0 rules (omega arith) (omega arith) (omega arith))
    ∙ rw (need_of_state (max 1 (need_of rules)) 0 (omega arith), step_of_state (max 1 (need_of rules)) 0 (omega arith)) (never (max 1 (need_of rules)) (largest (need_of rules)))
  where
    largest : (n : ℕ) → 1 ≤ max 1 n
    largest n = omega arith

    never : (n : ℕ) → 1 ≤ n → nat_le n 0 ≡ false
    never n h = grind (arith, h)

-- a gate of these meanings, at its first state
pub version_gate : (g : GateOf) → g.label ≡ codes "version" → ((informed : Option ℕ) (rules : List ℕ) → g.passes informed rules ≡ passes_version (seen after_version (informed_by informed_version 4 informed) rules)) → IsVersionGate g
version_gate g named meanings = record {
  named = named;
  uninformed = λ rules. meanings None rules ∙ uninformed_fails rules;
  informed = λ step rules least most. meanings (Some step) rules ∙ informed_passes step rules least most;
}

-- ---- where it is asked alone

pub version_alone : (gates : List GateOf) (g : GateOf) → filter (λ (h : GateOf). bytes_eq h.label (codes "version")) gates ≡ g ∷ [] → IsVersionGate g
    → (told : Told) (step : ℕ) (rules : List ℕ) → told.step ≡ Some step → 1 ≤ step → step ≤ 3 → all_pass gates (codes "version" ∷ []) told rules ≡ nat_le (need_of rules) step
version_alone gates g only is told step rules said least most =
    passes_alone (codes "version") gates g only told rules ∙ ap (λ n. g.passes n rules) (ap (told_to told) is.named ∙ said) ∙ is.informed step rules least most
