use Rattle.jc_acts.proofs.members.method_closed.Goals as goal
use Rattle.jc_acts.proofs.Firsts.{methods_first, methods_second}
use Rattle.jc_sides.specs.SharedOf.{name_of}

pub returns-in-Some : goal.returns-in-Some
returns-in-Some c = methods_first c.args.sides.now (name_of c.args.class.now) c.args.key.now c.in-Some.closed c.in-Some.ensures

pub returns-in-None : goal.returns-in-None
returns-in-None c = methods_second c.args.sides.now (name_of c.args.class.now) c.args.key.now c.closed_by-in-None.result c.in-None.ensures c.closed_by-in-None.ensures
