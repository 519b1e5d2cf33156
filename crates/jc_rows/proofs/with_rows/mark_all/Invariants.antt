use Rattle.std.proofs.Common.{◌≡◌, length, drop}
use Rattle.jc_rows.specs.steps.Marking.{with_marks}
use Rattle.jc_rows.proofs.with_rows.mark_all.Given as goal

abbrev pub invariant-loop-class : goal.invariant-loop-class
invariant-loop-class l = record {
  count : length l.made ≡ length l.initial.made;
  same : with_marks l.made (drop l.class-index l.classes) ≡ with_marks l.initial.made l.classes;
}
