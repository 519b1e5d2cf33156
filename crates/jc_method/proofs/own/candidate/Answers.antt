use Rattle.std.proofs.Common.{◌≡◌, subst}
use Rattle.jc_facts.specs.world.World.{World}
use Rattle.jc_index.specs.steps.Choosing.{candidate_at}
use Rattle.jc_method.proofs.own.candidate.Goals as goal

pub returns : goal.returns
returns c = subst (λ (W : World). c.candidate.result ≡ candidate_at W c.args.key.now c.args.class) c.hierarchy.ensures c.candidate.ensures
