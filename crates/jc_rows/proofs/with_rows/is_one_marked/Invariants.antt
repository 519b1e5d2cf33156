use Rattle.std.proofs.Common.{◌≡◌, drop}
use Rattle.std.specs.List.{list_any}
use Rattle.jc_rows.specs.steps.Marking.{marked_at}
use Rattle.jc_rows.proofs.with_rows.is_one_marked.Given as goal

abbrev pub invariant-loop-class : goal.invariant-loop-class
invariant-loop-class l = list_any (marked_at l.made) l.classes ≡ list_any (marked_at l.made) (drop l.class-index l.classes)
