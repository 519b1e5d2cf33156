use Rattle.std.proofs.Common.{◌≡◌, ◌-◌}
use Rattle.jc_facts.specs.file.ClassSteps.{attributes_at, class_takes, nothing_on_class}
use Rattle.jc_read.specs.steps.OnClassView.{on_class_view}
use Rattle.jc_read.proofs.on_class.some_on_class.Given as goal

abbrev pub invariant-loop : goal.invariant-loop
invariant-loop l = attributes_at (class_takes l.pool) l.pool (l.count - l.counter) (on_class_view l.found) l.rest ≡ attributes_at (class_takes l.pool) l.pool l.count nothing_on_class l.bytes
