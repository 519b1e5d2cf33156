use Rattle.std.proofs.Common.{◌≡◌, ◌-◌, length, map}
use Rattle.jc_sig.specs.Reading.{bounds_from}
use Rattle.jc_sig.specs.Views.{type_view}
use Rattle.jc_sig.proofs.Rows.{with_front}
use Rattle.jc_sig.proofs.parameters.bounds_at.Given as goal

abbrev pub invariant-loop : goal.invariant-loop
invariant-loop l = with_front (map type_view l.bounds.items) (bounds_from (length l.bytes - l.counter) l.rest) ≡ bounds_from (length l.bytes) l.bytes
