-- Which step findings and collisions need, and the state of the gate that compares it with the step that it is told.
--     need_of rules      3, 2 or 1
--     IsVersionGate g      the gate is named `version`, and passes exactly where it is told a step that is at least the need of what it saw
use Rattle.std.specs.Prelude.{◌≡◌, ◌≤◌, ◌+◌, ◌*◌, ◌/◌, ◌%◌, ℕ, Bool, false, List, [], ◌∷◌, Some, None, nat_le, codes, max, if◌then◌else◌}
use Rattle.std.specs.List.{list_any, filter}
use Rattle.std.specs.Str.{bytes_eq}
use Rattle.jc_gate.specs.Gates.{GateOf}
use Rattle.jc_gate.specs.Rules.{is_of_finding, is_of_collision}

-- the step that a rule needs: 3 of a finding, 2 of a collision
abbrev pub need_of_rule : ℕ → ℕ
need_of_rule rule = if is_of_finding rule then 3 else if is_of_collision rule then 2 else 1

-- the step that a list of rules needs
abbrev pub need_of : List ℕ → ℕ
need_of rules = if list_any is_of_finding rules then 3 else if list_any is_of_collision rules then 2 else 1

-- ---- the state of the gate: four times the need of what it saw, and the step that it was told, or 0

abbrev pub state_by : ℕ → ℕ → ℕ
state_by need step = 4 * need + step

abbrev pub need_in : ℕ → ℕ
need_in state = state / 4

abbrev pub step_in : ℕ → ℕ
step_in state = state % 4

-- once it is told a step
abbrev pub informed_version : ℕ → ℕ → ℕ
informed_version state step = state_by (need_in state) step

-- once it saw a rule
abbrev pub after_version : ℕ → ℕ → ℕ
after_version state rule = state_by (max (need_in state) (need_of_rule rule)) (step_in state)

-- it passes where the step is at least the need
abbrev pub passes_version : ℕ → Bool
passes_version state = nat_le (need_in state) (step_in state)

-- ---- what the gate answers

-- the gate of the versions, before it is told a step or saw a rule: untold it never passes, and told a step it passes exactly where that is at
-- least the need of the rules
pub record IsVersionGate (g : GateOf) : Type 0 where
  pub named : g.label ≡ codes "version"
  pub uninformed : (rules : List ℕ) → g.passes None rules ≡ false
  pub informed : (step : ℕ) (rules : List ℕ) → 1 ≤ step → step ≤ 3 → g.passes (Some step) rules ≡ nat_le (need_of rules) step

-- of the gates it is the only one of its name
abbrev pub HasVersionGate : List GateOf → Type 0
HasVersionGate gates = (g : GateOf) × (filter (λ (h : GateOf). bytes_eq h.label (codes "version")) gates ≡ g ∷ []) × IsVersionGate g
