use Rattle.std.proofs.Common.{◌≡◌, ◌-◌}
use Rattle.jc_facts.specs.file.Attributes.{list_at, class_from}
use Rattle.jc_attr.specs.steps.Firsts.{AreFirsts}
use Rattle.jc_attr.specs.steps.Front.{with_front}
use Rattle.jc_attr.proofs.classes.some_classes_at.Given as goal

abbrev pub invariant-loop : goal.invariant-loop
invariant-loop l = AreFirsts l.pool l.names l.firsts.items × (with_front l.names (list_at (class_from l.pool) (l.count - l.counter) l.rest) ≡ list_at (class_from l.pool) l.count l.bytes)
