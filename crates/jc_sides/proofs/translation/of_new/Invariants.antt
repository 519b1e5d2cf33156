use Rattle.jc_rows.specs.Keys.{numbered_keys}
use Rattle.jc_sides.proofs.TranslatedKeys.{AreFirst}
use Rattle.jc_sides.proofs.translation.of_new.Given as goal

abbrev pub invariant-loop-number : goal.invariant-loop-number
invariant-loop-number l = AreFirst l.sides (numbered_keys l.sides.new) l.number l.numbers.items
