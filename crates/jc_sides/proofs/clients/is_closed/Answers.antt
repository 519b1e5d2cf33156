use Rattle.std.proofs.Common.{sym, ◌∙◌}
use Rattle.jc_sides.specs.SharedOf.{name_of}
use Rattle.jc_sides.proofs.NamedAbove.{closed_is}
use Rattle.jc_sides.proofs.clients.is_closed.Goals as goal

pub returns : goal.returns
returns c = c.in_ok-closed.ensures ∙ sym (closed_is c.args.sides.now (name_of c.args.class.now) c.before-2.result.now c.after.result.now c.requires.kept c.before-2.ensures c.after.ensures)
