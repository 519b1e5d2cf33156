use Rattle.std.proofs.Common.{◌≡◌, subst}
use Rattle.jc_facts.specs.world.World.{World}
use Rattle.jc_index.specs.steps.Choosing.{own_at}
use Rattle.jc_method.proofs.own.declared.Goals as goal

pub returns : goal.returns
returns c = subst (λ (W : World). c.declared.result ≡ own_at W c.args.key.now c.args.class) c.hierarchy.ensures c.declared.ensures
