use Rattle.std.proofs.Common.{sym, ◌∙◌}
use Rattle.jc_sides.specs.SharedOf.{name_of}
use Rattle.jc_sides.proofs.NamedAbove.{base_class_is}
use Rattle.jc_sides.proofs.clients.is_base_class.Goals as goal

pub returns : goal.returns
returns c = c.in_ok-stays.ensures ∙ sym (base_class_is c.args.sides.now (name_of c.args.class.now) c.before-2.result.now c.after.result.now c.requires.kept c.before-2.ensures c.after.ensures)
