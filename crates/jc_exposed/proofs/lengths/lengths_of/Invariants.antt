use Rattle.jc_exposed.specs.Lengths.{HaveLengths}
use Rattle.jc_exposed.proofs.lengths.lengths_of.Given as goal

abbrev pub invariant-loop-n : goal.invariant-loop-n
invariant-loop-n l = HaveLengths l.table l.wanted l.n l.lengths.items
