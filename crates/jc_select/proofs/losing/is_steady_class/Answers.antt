use Rattle.jc_select.proofs.LostRows.{unsteady}
use Rattle.jc_index.specs.Ids.{name_at}
use Rattle.jc_select.proofs.losing.is_steady_class.Goals as goal

pub returns-in-None : goal.returns-in-None
returns-in-None c = unsteady c.args.sides.now.old c.args.sides.now.new (name_at c.args.sides.now.old c.args.id) c.in-None.ensures
