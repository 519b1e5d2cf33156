use Rattle.std.proofs.Common.{◌≡◌, ◌-◌, ◌/◌, length}
use Rattle.jc_facts.specs.code.Code.{catches_at}
use Rattle.jc_code.specs.steps.Pushed.{in_front}
use Rattle.jc_code.proofs.catches.catches.Given as goal

abbrev pub invariant-loop : goal.invariant-loop
invariant-loop l = in_front l.items.items (catches_at l.pool l.here (length l.bytes / 8 - l.counter) l.rest) ≡ in_front l.fn.items.items (catches_at l.pool l.left (length l.bytes / 8) l.bytes)
