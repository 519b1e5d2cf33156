use Rattle.std.proofs.Common.{◌≡◌, drop}
use Rattle.jc_rows.specs.steps.Gathering.{first_entry}
use Rattle.jc_rows.proofs.agreeing.first_of.Given as goal

abbrev pub invariant-loop-name : goal.invariant-loop-name
invariant-loop-name l = first_entry l.index l.rows (drop l.name-index l.names) l.number ≡ first_entry l.index l.rows l.names l.number
