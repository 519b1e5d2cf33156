use Rattle.std.proofs.Common.{subst}
use Rattle.jc_facts.specs.world.World.{World}
use Rattle.jc_facts.specs.world.Lookup.{superinterface_choices}
use Rattle.jc_index.specs.Ids.{name_at}
use Rattle.jc_index.specs.Lookups.{IsChoice}
use Rattle.jc_method.proofs.own.find_above.Goals as goal

pub returns : goal.returns
returns c = subst (λ (W : World). IsChoice W c.find_above.result (superinterface_choices W (name_at W c.args.class) c.args.key.now)) c.hierarchy.ensures c.find_above.ensures.choice
