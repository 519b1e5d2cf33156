use Rattle.std.proofs.Common.{◌≡◌, drop}
use Rattle.std.specs.List.{list_all}
use Rattle.jc_select.specs.steps.Parts.{stands_at}
use Rattle.jc_select.proofs.parts.all_stand.Given as goal

abbrev pub invariant-loop-id : goal.invariant-loop-id
invariant-loop-id l = list_all (stands_at l.sides l.before l.after) (drop l.id-index l.before) ≡ list_all (stands_at l.sides l.before l.after) l.before
