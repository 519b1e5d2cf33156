use Rattle.jc_rows.specs.steps.Numbering.{IsNumberingBefore}
use Rattle.jc_rows.proofs.numbering.number_members.Given as goal

abbrev pub invariant-loop-n : goal.invariant-loop-n
invariant-loop-n l = IsNumberingBefore l.index l.n l.numbering
