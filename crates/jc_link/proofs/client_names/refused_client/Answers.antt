use Rattle.std.proofs.Common.{◌∙◌}
use Rattle.jc_facts.specs.world.World.{side}
use Rattle.jc_link.proofs.Taken.{first_is}
use Rattle.jc_link.proofs.client_names.refused_client.Goals as goal

pub returns : goal.returns
returns c =
    c.refused_among.ensures ∙ first_is (side c.args.platform.now c.args.release.now) c.in_ok-of.of c.in_ok-taken.taken c.args.clients.now c.in_ok-taken.ensures c.in_ok-of.ensures
