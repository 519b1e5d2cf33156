use Rattle.std.proofs.Common.{◌≡◌, take}
use Rattle.jc_index.specs.steps.Order.{names_at}
use Rattle.jc_index.proofs.names.numbered.Given as goal

abbrev pub invariant-loop-class : goal.invariant-loop-class
invariant-loop-class l = l.names ≡ names_at (take l.class-index l.classes)
