use Rattle.jc_facts.specs.world.Hierarchy.{chain}
use Rattle.jc_facts.specs.world.Lookup.{first_declared, superinterface_choices, method_choices}
use Rattle.jc_index.specs.Ids.{name_at}
use Rattle.jc_index.proofs.Lookups.{choice_here, choice_next}
use Rattle.jc_method.proofs.walk.walk_method.Goals as goal

pub returns-in-Some : goal.returns-in-Some
unfolding method_choices
returns-in-Some c =
    choice_here c.args.table.now c.in-Some.found (first_declared c.args.key.now (chain c.args.table.now (name_at c.args.table.now c.args.class))) (superinterface_choices c.args.table.now (name_at c.args.table.now c.args.class) c.args.key.now) c.in-Some.ensures

pub returns-in-None : goal.returns-in-None
unfolding method_choices
returns-in-None c =
    choice_next c.args.table.now c.find_above.result (first_declared c.args.key.now (chain c.args.table.now (name_at c.args.table.now c.args.class))) (superinterface_choices c.args.table.now (name_at c.args.table.now c.args.class) c.args.key.now) c.in-None.ensures c.find_above.ensures
