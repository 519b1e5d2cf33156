-- Gates, apart from how they keep what they saw.
use Rattle.std.specs.Prelude.{◌≤◌, ℕ, Bool, List, Option, Some, None, ◌||◌, not, find, codes, if◌then◌else◌}
use Rattle.std.specs.List.{list_any, list_all}
use Rattle.std.specs.Str.{bytes_eq}
use Rattle.jc_gate.specs.Seen.{seen, informed_by}
use Rattle.jc_gate.specs.declared.gate.Gate as gate
use Rattle.jc_gate.specs.declared.told.Told.{Told}

-- a step between versions
abbrev pub IsStep : ℕ → Type 0
IsStep step = (1 ≤ step) × (step ≤ 3)

-- the name of a gate, and whether it passes once it is told this number, where there is one, and has seen these rules in their order
pub record GateOf : Type 0 where
  pub label : List ℕ
  pub passes : Option ℕ → List ℕ → Bool

-- the number, where it is so
abbrev pub some_if : Bool → ℕ → Option ℕ
some_if b n = if b then Some n else None

-- the gate of a value, by the meanings of its type
abbrev pub gate_of : {X : Type 0} → gate.Ghosts X → X → GateOf
gate_of meaning x = record { label = meaning.label x; passes = λ step rules. meaning.pass x (seen (meaning.after x) (informed_by (meaning.informed x) (meaning.state x) step) rules) }

-- one of the gates has this name
abbrev pub is_known : List GateOf → List ℕ → Bool
is_known gates name = list_any (λ g. bytes_eq g.label name) gates

-- the first of the names that no gate has
abbrev pub first_unknown : List GateOf → List (List ℕ) → Option (List ℕ)
first_unknown gates names = find (λ name. not (is_known gates name)) names

-- one of the names is the gate's
abbrev pub is_selected : List (List ℕ) → GateOf → Bool
is_selected names g = list_any (λ name. bytes_eq g.label name) names

-- ---- what gates are told

-- what the gate of this name is told before it sees a rule: `calls` is told 1 where nothing ends otherwise, and every other gate the step
abbrev pub told_to : Told → List ℕ → Option ℕ
told_to told label = if bytes_eq label (codes "calls") then some_if told.clear 1 else told.step

-- each gate of one of the names passes, once it is told what it has to be, and has seen the rules in their order
abbrev pub all_pass : List GateOf → List (List ℕ) → Told → List ℕ → Bool
all_pass gates names told rules = list_all (λ g. not (is_selected names g) || g.passes (told_to told g.label) rules) gates
