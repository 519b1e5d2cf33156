use Rattle.jc_facts.specs.Options.{or_else, and_then}
use Rattle.jc_facts.specs.world.World.{find_class, declared_method}
use Rattle.jc_facts.specs.world.Lookup.{public_method_of_object, superinterface_choices, interface_choices}
use Rattle.jc_index.specs.Ids.{name_at}
use Rattle.jc_index.proofs.Lookups.{choice_here, choice_next}
use Rattle.jc_method.proofs.walk.walk_interface_method.Goals as goal

pub returns-in-Some : goal.returns-in-Some
unfolding interface_choices
returns-in-Some c =
    choice_here c.args.table.now c.in-Some.found (or_else (and_then (declared_method c.args.key.now) (find_class c.args.table.now (name_at c.args.table.now c.args.class))) (public_method_of_object c.args.table.now c.args.key.now)) (superinterface_choices c.args.table.now (name_at c.args.table.now c.args.class) c.args.key.now) c.in-Some.ensures

pub returns-in-None : goal.returns-in-None
unfolding interface_choices
returns-in-None c =
    choice_next c.args.table.now c.find_above.result (or_else (and_then (declared_method c.args.key.now) (find_class c.args.table.now (name_at c.args.table.now c.args.class))) (public_method_of_object c.args.table.now c.args.key.now)) (superinterface_choices c.args.table.now (name_at c.args.table.now c.args.class) c.args.key.now) c.in-None.ensures c.find_above.ensures
