use Rattle.std.proofs.Common.{◌∙◌, sym}
use Rattle.jc_promises.specs.rule.Bases.{allowed}
use Rattle.jc_exposed.proofs.TwoNames.{two_none, two_some}
use Rattle.jc_exposed.proofs.apart.name_two.Goals as goal

pub returns-in-None : goal.returns-in-None
returns-in-None c = two_none (allowed c.args.sides.now.old c.args.sides.now.new) c.args.names.now c.args.others.now (sym c.in-None.ensures)

pub returns-in-Some : goal.returns-in-Some
returns-in-Some c = c.have_other.ensures ∙ two_some (allowed c.args.sides.now.old c.args.sides.now.new) c.args.names.now c.args.others.now c.in-Some.name.now (sym c.in-Some.ensures)
