use Rattle.std.proofs.Common.{◌≡◌, drop}
use Rattle.std.specs.List.{list_any}
use Rattle.jc_used.specs.Explains.{is_number}
use Rattle.jc_used.proofs.explained.has_number.Given as goal

abbrev pub invariant-loop-one : goal.invariant-loop-one
invariant-loop-one l = list_any (is_number l.number) (drop l.one-index l.numbers) ≡ list_any (is_number l.number) l.numbers
