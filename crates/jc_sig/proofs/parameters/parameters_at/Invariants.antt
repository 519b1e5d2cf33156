use Rattle.std.proofs.Common.{◌≡◌, ◌-◌, length, map}
use Rattle.jc_sig.specs.Reading.{parameters_from}
use Rattle.jc_sig.specs.Views.{parameter_view}
use Rattle.jc_sig.proofs.Rows.{with_front}
use Rattle.jc_sig.proofs.parameters.parameters_at.Given as goal

abbrev pub invariant-loop : goal.invariant-loop
invariant-loop l = with_front (map parameter_view l.parameters.items) (parameters_from (length l.bytes - l.counter) l.rest) ≡ parameters_from (length l.bytes) l.bytes
