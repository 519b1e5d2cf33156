-- A gate that is asked alone, and is the only one of its name.
use Rattle.std.proofs.Common.{◌≡◌, ◌&&◌, ◌||◌, not, ℕ, Bool, true, false, cond, List, [], ◌∷◌, refl, ap, ◌∙◌, codes}
use Rattle.std.specs.Prelude.{is_some}
use Rattle.std.specs.List.{list_all, filter}
use Rattle.std.specs.Str.{bytes_eq}
use Rattle.std.proofs.Math.Bool.{and-true}
use Rattle.jc_gate.specs.declared.told.Told.{Told}
use Rattle.jc_gate.specs.Gates.{GateOf, some_if, told_to, all_pass}
use Rattle.jc_gate.specs.Meanings.{IsGateBy, IsCallsGate}

-- the gates of the name are those that have to pass
abbrev named : List ℕ → List GateOf → List GateOf
named name gates = filter (λ (h : GateOf). bytes_eq h.label name) gates

pub selected_pass : (name : List ℕ) (gates : List GateOf) (told : Told) (rules : List ℕ) → all_pass gates (name ∷ []) told rules ≡ list_all (λ (g : GateOf). g.passes (told_to told g.label) rules) (named name gates)
selected_pass name [] told rules = refl
selected_pass name (g ∷ gs) told rules = by (bytes_eq g.label name) (selected_pass name gs told rules)
  where
    by : (b : Bool) → all_pass gs (name ∷ []) told rules ≡ list_all (λ (h : GateOf). h.passes (told_to told h.label) rules) (named name gs)
        → ((not (b || false) || g.passes (told_to told g.label) rules) && all_pass gs (name ∷ []) told rules)
        ≡ list_all (λ (h : GateOf). h.passes (told_to told h.label) rules) (cond b (g ∷ named name gs) (named name gs))
    by true r = ap (λ b. g.passes (told_to told g.label) rules && b) r
    by false r = r

-- the only one of its name is the one that has to pass
pub passes_alone : (name : List ℕ) (gates : List GateOf) (g : GateOf) → named name gates ≡ g ∷ [] → (told : Told) (rules : List ℕ) → all_pass gates (name ∷ []) told rules ≡ g.passes (told_to told g.label) rules
passes_alone name gates g only told rules =
    selected_pass name gates told rules ∙ ap (list_all (λ (h : GateOf). h.passes (told_to told h.label) rules)) only ∙ and-true (g.passes (told_to told g.label) rules)

-- a gate that is told of no step is asked alone
pub gate_alone : (name : List ℕ) (test : List ℕ → Bool) (gates : List GateOf) (g : GateOf) → named name gates ≡ g ∷ [] → IsGateBy name test g → (told : Told) (rules : List ℕ) → all_pass gates (name ∷ []) told rules ≡ test rules
gate_alone name test gates g only is told rules = passes_alone name gates g only told rules ∙ is.passes (told_to told g.label) rules

-- `calls` passes exactly where nothing ends otherwise
pub calls_alone : (gates : List GateOf) (g : GateOf) → named (codes "calls") gates ≡ g ∷ [] → IsCallsGate g → (told : Told) (rules : List ℕ) → all_pass gates (codes "calls" ∷ []) told rules ≡ told.clear
calls_alone gates g only is told rules =
    passes_alone (codes "calls") gates g only told rules ∙ is.passes (told_to told g.label) rules ∙ ap (λ label. is_some (told_to told label)) is.named ∙ clear told.clear
  where
    clear : (b : Bool) → is_some (some_if b 1) ≡ b
    clear true = refl
    clear false = refl
