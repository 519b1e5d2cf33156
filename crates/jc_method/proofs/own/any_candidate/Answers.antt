use Rattle.std.proofs.Common.{subst}
use Rattle.jc_facts.specs.world.World.{World}
use Rattle.jc_index.specs.Ids.{name_at}
use Rattle.jc_index.specs.steps.Choosing.{candidate_at, FindsAbove}
use Rattle.jc_method.proofs.own.any_candidate.Goals as goal

pub returns : goal.returns
returns c = subst (λ (W : World). FindsAbove W (name_at W c.args.class) (candidate_at W c.args.key.now) c.any_candidate.result) c.hierarchy.ensures c.any_candidate.ensures
