use Rattle.std.proofs.Common.{sym, ◌∙◌}
use Rattle.jc_sides.specs.SharedOf.{name_of}
use Rattle.jc_acts.specs.Touched.{left_chain_of}
use Rattle.jc_acts.proofs.Changed.{none_left}
use Rattle.jc_acts.proofs.SetFlags.{none_set}
use Rattle.jc_acts.proofs.touched.set_left_by.Goals as goal

pub returns-else-has_lost : goal.returns-else-has_lost
returns-else-has_lost c =
    none_set c.args.sides.now.old (λ y. left_chain_of c.args.sides.now y (name_of c.args.seat.now)) c.args.flags.now.items c.requires.flags (none_left c.args.sides.now (name_of c.args.seat.now) (sym c.has_lost.ensures ∙ c.if-has_lost.false))
