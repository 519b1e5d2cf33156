use Rattle.std.proofs.Common.{◌≡◌, drop}
use Rattle.std.specs.List.{list_any}
use Rattle.jc_index.specs.Ids.{name_at}
use Rattle.jc_call_lines.specs.steps.JoinLines.{meets_by}
use Rattle.jc_call_lines.proofs.joins.meets_any.Given as goal

abbrev pub invariant-loop-other : goal.invariant-loop-other
invariant-loop-other l =
    list_any (λ k. meets_by l.sides (name_at l.sides.old l.«class») (name_at l.sides.old l.target) (name_at l.sides.old k)) (drop l.other-index l.others)
    ≡ list_any (λ k. meets_by l.sides (name_at l.sides.old l.«class») (name_at l.sides.old l.target) (name_at l.sides.old k)) l.others
