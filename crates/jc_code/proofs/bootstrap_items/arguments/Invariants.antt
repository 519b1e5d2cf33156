use Rattle.std.proofs.Common.{◌≡◌, ◌-◌, ◌/◌, length}
use Rattle.jc_facts.specs.code.Code.{arguments_items}
use Rattle.jc_code.specs.steps.Pushed.{onto}
use Rattle.jc_code.proofs.bootstrap_items.arguments.Given as goal

abbrev pub invariant-loop : goal.invariant-loop
invariant-loop l = onto l.items.items (arguments_items l.pool (length l.bytes / 2 - l.counter) l.rest) ≡ onto l.fn.items.items (arguments_items l.pool (length l.bytes / 2) l.bytes)
