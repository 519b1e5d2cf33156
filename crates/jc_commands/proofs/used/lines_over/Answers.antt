use Rattle.jc_releases.specs.Releases.{side_of}
use Rattle.jc_commands.proofs.Causes.{matching_clients, counting_clients}
use Rattle.jc_commands.proofs.TwoReleases.{two_paired}
use Rattle.std.proofs.Common.{true}
use Rattle.jc_commands.proofs.used.lines_over.Goals as goal

pub returns-in-Err-clause-stopped : goal.returns-in-Err-clause-stopped
returns-in-Err-clause-stopped c =
    matching_clients true (side_of c.args.platform.now c.args.old) (side_of c.args.platform.now c.args.new) c.in-Err.stop c.in-Err.ensures.stopped

pub returns-in-Err-verdict_between-clause-stopped : goal.returns-in-Err-verdict_between-clause-stopped
returns-in-Err-verdict_between-clause-stopped c =
    counting_clients (side_of c.args.platform.now c.args.old) (side_of c.args.platform.now c.args.new) c.in-Err-verdict_between.stop
    (two_paired c.args.platform.now c.args.old c.args.new c.requires.platform c.requires.releases c.in-Ok.ensures.fits) c.in-Ok.ensures.fits
    (rw (c.in-Ok.ensures.old, c.in-Ok.ensures.new) at c.in-Err-verdict_between.ensures.stopped)

pub returns-in-Ok-lines_of-clause-lines : goal.returns-in-Ok-lines_of-clause-lines
returns-in-Ok-lines_of-clause-lines c = record {
  verdict = c.in-Ok-verdict_between.verdict;
  exact = record {
    fits = c.in-Ok.ensures.fits;
    exact = rw (c.in-Ok.ensures.old, c.in-Ok.ensures.new) at c.in-Ok-verdict_between.ensures.exact;
    few = c.in-Ok-verdict_between.ensures.few;
  };
  lines_are = rw c.in-Ok.ensures.new at c.in-Ok-lines_of.ensures;
}
