use Rattle.std.proofs.Common.{subst}
use Rattle.std.specs.Prelude.{IfSome}
use Rattle.jc_rules.specs.Verdicts.{IsVerdictWithin, KeepsAll, BreaksEach}
use Rattle.jc_releases.specs.declared.limits.TheConstants.{MAX_FINDINGS}
use Rattle.jc_commands.proofs.found.verdict_alone.Goals as goal

pub returns : goal.returns
returns c = subst (IsVerdictWithin c.args.sides.now.old c.args.sides.now.new MAX_FINDINGS) c.in-None.is c.in_ok-made.ensures.exact

pub returns-in-Some : goal.returns-in-Some
returns-in-Some c =
    let within = subst (IsVerdictWithin c.args.sides.now.old c.args.sides.now.new MAX_FINDINGS) c.in-Some.is c.in_ok-made.ensures.exact in
    record {
      exact = within.0;
      few = within.1;
      kept = subst (λ made. IfSome made (KeepsAll c.args.sides.now.old c.args.sides.now.new)) c.in-Some.is c.in_ok-made.ensures.kept;
      broken = subst (λ made. IfSome made (BreaksEach c.args.sides.now.old c.args.sides.now.new)) c.in-Some.is c.in_ok-made.ensures.broken;
      listed = tt;
      still = tt;
      stopped = tt;
    }
