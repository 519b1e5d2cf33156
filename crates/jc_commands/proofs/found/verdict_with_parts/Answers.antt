use Rattle.std.proofs.Common.{subst}
use Rattle.jc_sides.specs.SidesOf.{SidesOf}
use Rattle.jc_commands.specs.steps.Check.{AreFoundWithin}
use Rattle.jc_commands.proofs.found.verdict_with_parts.Goals as goal

pub returns : goal.returns
returns c = subst (λ (s : SidesOf). AreFoundWithin c.args.dropped c.args.calls s.old s.new c.in_ok-found.found) c.in_ok-sides.ensures c.in_ok-found.ensures
