use Rattle.std.proofs.Common.{◌≡◌, drop}
use Rattle.std.specs.List.{list_any}
use Rattle.jc_field.specs.steps.Fields.{declares_at}
use Rattle.jc_field.proofs.walk.any_declares.Given as goal

abbrev pub invariant-loop-class : goal.invariant-loop-class
invariant-loop-class l = list_any (declares_at l.table l.key) l.classes ≡ list_any (declares_at l.table l.key) (drop l.class-index l.classes)
