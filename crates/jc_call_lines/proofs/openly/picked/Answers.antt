use Rattle.std.proofs.Common.{subst}
use Rattle.jc_facts.specs.world.World.{World}
use Rattle.jc_index.specs.Ids.{name_at}
use Rattle.jc_index.specs.Picks.{Picks}
use Rattle.jc_call_lines.proofs.openly.picked.Goals as goal

pub returns-clause-pick : goal.returns-clause-pick
returns-clause-pick c = subst (λ (W : World). Picks W (name_at W c.args.class) c.args.key.now c.find_above.result) c.hierarchy.ensures c.find_above.ensures.pick
