use Rattle.std.proofs.Common.{sym, subst}
use Rattle.jc_acts.specs.Touched.{flag_at}
use Rattle.jc_exposed.specs.Exposed.{AreExposed, AreWanted}
use Rattle.jc_rules.specs.steps.Losses.{exposed_of}
use Rattle.jc_rules.specs.Verdicts.{IsVerdictWithin, KeepsAll, BreaksEach}
use Rattle.jc_select.specs.steps.Losing.{hidden_of}
use Rattle.jc_releases.specs.declared.limits.TheConstants.{MAX_FINDINGS}
use Rattle.std.specs.Prelude.{IfSome}
use Rattle.jc_commands.proofs.found.verdict_and_dropped.Goals as goal

pub dropped_over-requires-clause-exposed : goal.dropped_over-requires-clause-exposed
dropped_over-requires-clause-exposed c = subst (AreExposed c.args.sides.now) (sym c.exposed.ensures) c.in_ok-losses.ensures.losses.exposed

pub dropped_over-requires-clause-wanted : goal.dropped_over-requires-clause-wanted
dropped_over-requires-clause-wanted c =
    subst (AreWanted c.args.sides.now (flag_at (hidden_of c.in_ok-lost.lost))) (sym c.exposed.ensures)
    (subst (λ fs. AreWanted c.args.sides.now (flag_at fs) (exposed_of c.in_ok-losses.losses)) c.hidden.ensures c.in_ok-losses.ensures.others)

pub returns-in_default : goal.returns-in_default
returns-in_default c = subst (IsVerdictWithin c.args.sides.now.old c.args.sides.now.new MAX_FINDINGS) c.in_default.is c.in_ok-verdict.ensures.exact

pub returns : goal.returns
returns c =
    let within = subst (IsVerdictWithin c.args.sides.now.old c.args.sides.now.new MAX_FINDINGS) c.in-Some.is c.in_ok-verdict.ensures.exact in
    record {
      exact = within.0;
      few = within.1;
      kept = subst (λ made. IfSome made (KeepsAll c.args.sides.now.old c.args.sides.now.new)) c.in-Some.is c.in_ok-verdict.ensures.kept;
      broken = subst (λ made. IfSome made (BreaksEach c.args.sides.now.old c.args.sides.now.new)) c.in-Some.is c.in_ok-verdict.ensures.broken;
      listed = c.listed.ensures.exact;
      still = c.listed.ensures.kept;
      stopped = c.listed.ensures.stopped;
    }
