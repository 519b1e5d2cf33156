-- What the gates `links`, `collisions`, `few` and `calls` answer.
--     IsGateBy name test g      the gate is of this name, and passes exactly where the rules that it saw pass the test
--     HasLinksGate gates      of the gates the only one named `links` passes exactly where it saw no rule of a finding
--     HasCallsGate gates      of the gates the only one named `calls` passes exactly where it was told something
use Rattle.std.specs.Prelude.{◌≡◌, ℕ, Bool, List, Option, ◌∷◌, [], length, nat_le, not, codes, is_some}
use Rattle.std.specs.List.{list_any, filter}
use Rattle.std.specs.Str.{bytes_eq}
use Rattle.jc_gate.specs.Gates.{GateOf}
use Rattle.jc_gate.specs.Rules.{is_of_finding, is_of_collision}

-- the gate has this name, and passes exactly where the rules that it saw pass the test, whatever step it is told
pub record IsGateBy (name : List ℕ) (test : List ℕ → Bool) (g : GateOf) : Type 0 where
  pub named : g.label ≡ name
  pub passes : (step : Option ℕ) (rules : List ℕ) → g.passes step rules ≡ test rules

-- no rule is that of a finding
abbrev pub has_no_finding : List ℕ → Bool
has_no_finding rules = not (list_any is_of_finding rules)

-- no rule is that of a collision
abbrev pub has_no_collision : List ℕ → Bool
has_no_collision rules = not (list_any is_of_collision rules)

-- there are at most so many
abbrev pub has_at_most : ℕ → List ℕ → Bool
has_at_most limit rules = nat_le (length rules) limit

-- of the gates this is the only one of its name
abbrev pub HasLinksGate : List GateOf → Type 0
HasLinksGate gates = (g : GateOf) × (filter (λ (h : GateOf). bytes_eq h.label (codes "links")) gates ≡ g ∷ []) × IsGateBy (codes "links") has_no_finding g

-- the gate is named `calls`, and passes exactly where it was told something, whatever rules it saw
pub record IsCallsGate (g : GateOf) : Type 0 where
  pub named : g.label ≡ codes "calls"
  pub passes : (told : Option ℕ) (rules : List ℕ) → g.passes told rules ≡ is_some told

-- of the gates this is the only one of its name
abbrev pub HasCallsGate : List GateOf → Type 0
HasCallsGate gates = (g : GateOf) × (filter (λ (h : GateOf). bytes_eq h.label (codes "calls")) gates ≡ g ∷ []) × IsCallsGate g
