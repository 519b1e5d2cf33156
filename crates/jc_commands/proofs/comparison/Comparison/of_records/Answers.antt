use Rattle.std.proofs.Common.{option_map, subst}
use Rattle.std.specs.Prelude.{IfOk, IfErr, IfSome}
use Rattle.jc_call_lines.specs.LinesWithin.{ReferencesStill}
use Rattle.jc_select.specs.DroppedWithin.{InterfacesStill}
use Rattle.jc_words.specs.CommandView.{check_of}
use Rattle.jc_commands.specs.CallsPart.{AreAskedCalls}
use Rattle.jc_commands.specs.DroppedPart.{AreAskedDropped}
use Rattle.jc_releases.specs.Releases.{side_of}
use Rattle.jc_commands.specs.steps.Check.{StopsDropping, StopsCalling}
use Rattle.jc_commands.proofs.Causes.{unmatched, unfit_counting, unfit_warning, unfit_dropping, unfit_calling}
use Rattle.jc_commands.proofs.TwoReleases.{two_paired}
use Rattle.jc_commands.proofs.comparison.Comparison.of_records.Goals as goal

pub returns-in-Ok-calls-clause-compared : goal.returns-in-Ok-calls-clause-compared
returns-in-Ok-calls-clause-compared c = record {
  old_is = c.in-Ok.ensures.old;
  new_is = c.in-Ok.ensures.new;
  can = rw (c.in-Ok.ensures.old, c.in-Ok.ensures.new) at c.in-Ok.ensures.can;
  verdict = record { fits = c.in-Ok.ensures.fits; exact = rw (c.in-Ok.ensures.old, c.in-Ok.ensures.new) at c.in-Ok-found_between.ensures.found.judged.exact; few = c.in-Ok-found_between.ensures.found.judged.few };
  kept = rw (c.in-Ok.ensures.old, c.in-Ok.ensures.new) at c.in-Ok-found_between.ensures.found.judged.kept;
  breaks = rw (c.in-Ok.ensures.old, c.in-Ok.ensures.new) at c.in-Ok-found_between.ensures.found.judged.broken;
  warned = rw (c.in-Ok.ensures.old, c.in-Ok.ensures.new) at c.in-Ok-warned.ensures.exact;
  noted = rw (c.in-Ok.ensures.old, c.in-Ok.ensures.new) at c.in-Ok-noted.ensures;
  dropped =
      let found = subst (λ r. IfOk r (λ made. AreAskedDropped (check_of c.args.check.now).dropped c.in-Ok.sides.old c.in-Ok.sides.new (option_map (λ ds. ds.items) made))) c.in-Ok-dropped.is c.in-Ok-found_between.ensures.found.judged.listed in
      rw (c.in-Ok.ensures.old, c.in-Ok.ensures.new) at found;
  interfaces =
      let found = subst (λ r. IfOk r (λ made. IfSome (option_map (λ ds. ds.items) made) (InterfacesStill c.in-Ok.sides.old c.in-Ok.sides.new))) c.in-Ok-dropped.is c.in-Ok-found_between.ensures.found.judged.still in
      rw (c.in-Ok.ensures.old, c.in-Ok.ensures.new) at found;
  calls =
      let found = subst (λ r. IfOk r (λ made. AreAskedCalls (check_of c.args.check.now).calls c.in-Ok.sides.old c.in-Ok.sides.new (option_map (λ ls. ls.items) made))) c.in-Ok-calls.is c.in-Ok-found_between.ensures.found.called in
      rw (c.in-Ok.ensures.old, c.in-Ok.ensures.new) at found;
  references =
      let found = subst (λ r. IfOk r (λ made. IfSome (option_map (λ ls. ls.items) made) (ReferencesStill c.in-Ok.sides.old c.in-Ok.sides.new))) c.in-Ok-calls.is c.in-Ok-found_between.ensures.found.still in
      rw (c.in-Ok.ensures.old, c.in-Ok.ensures.new) at found;
  answered = rw (c.in-Ok.ensures.old, c.in-Ok.ensures.new) at c.in-Ok-warned.ensures.answered;
}

pub returns-in-Err-clause-stopped : goal.returns-in-Err-clause-stopped
returns-in-Err-clause-stopped c =
    unmatched (side_of c.args.platform.items c.args.old) (side_of c.args.platform.items c.args.new) c.in-Err.stop c.in-Err.ensures.stopped (check_of c.args.check.now)

pub returns-in-Err-found_between-clause-stopped : goal.returns-in-Err-found_between-clause-stopped
returns-in-Err-found_between-clause-stopped c =
    unfit_counting (side_of c.args.platform.items c.args.old) (side_of c.args.platform.items c.args.new) c.in-Err-found_between.stop
    (two_paired c.args.platform.items c.args.old c.args.new c.requires.platform c.requires.releases c.in-Ok.ensures.fits) c.in-Ok.ensures.fits
    (rw (c.in-Ok.ensures.old, c.in-Ok.ensures.new) at c.in-Err-found_between.ensures.stopped) (check_of c.args.check.now)

pub returns-in-Err-warned-clause-stopped : goal.returns-in-Err-warned-clause-stopped
returns-in-Err-warned-clause-stopped c =
    unfit_warning (side_of c.args.platform.items c.args.old) (side_of c.args.platform.items c.args.new) c.in-Err-warned.stop
    (two_paired c.args.platform.items c.args.old c.args.new c.requires.platform c.requires.releases c.in-Ok.ensures.fits) c.in-Ok.ensures.fits
    c.in-Ok-found_between.found.judged.verdict (rw (c.in-Ok.ensures.old, c.in-Ok.ensures.new) at c.in-Ok-found_between.ensures.found.judged.exact) c.in-Ok-found_between.ensures.found.judged.few (check_of c.args.check.now)
    (rw (c.in-Ok.ensures.old, c.in-Ok.ensures.new) at c.in-Err-warned.ensures.stopped)

pub returns-in-Err-dropped-clause-stopped : goal.returns-in-Err-dropped-clause-stopped
returns-in-Err-dropped-clause-stopped c =
    let stopped = subst (λ r. IfErr r (StopsDropping (check_of c.args.check.now).dropped c.in-Ok.sides.old c.in-Ok.sides.new)) c.in-Err-dropped.is c.in-Ok-found_between.ensures.found.judged.stopped in
    unfit_dropping (side_of c.args.platform.items c.args.old) (side_of c.args.platform.items c.args.new) c.in-Err-dropped.stop c.in-Ok.ensures.fits
    c.in-Ok-found_between.found.judged.verdict (rw (c.in-Ok.ensures.old, c.in-Ok.ensures.new) at c.in-Ok-found_between.ensures.found.judged.exact) c.in-Ok-found_between.ensures.found.judged.few (check_of c.args.check.now) _
    (rw (c.in-Ok.ensures.old, c.in-Ok.ensures.new) at c.in-Ok-warned.ensures.exact) (rw (c.in-Ok.ensures.old, c.in-Ok.ensures.new) at stopped)

pub returns-in-Err-calls-clause-stopped : goal.returns-in-Err-calls-clause-stopped
returns-in-Err-calls-clause-stopped c =
    let stopped = subst (λ r. IfErr r (StopsCalling (check_of c.args.check.now).calls c.in-Ok.sides.old c.in-Ok.sides.new)) c.in-Err-calls.is c.in-Ok-found_between.ensures.found.stopped in
    let dropped = subst (λ r. IfOk r (λ made. AreAskedDropped (check_of c.args.check.now).dropped c.in-Ok.sides.old c.in-Ok.sides.new (option_map (λ ds. ds.items) made))) c.in-Ok-dropped.is c.in-Ok-found_between.ensures.found.judged.listed in
    unfit_calling (side_of c.args.platform.items c.args.old) (side_of c.args.platform.items c.args.new) c.in-Err-calls.stop
    (two_paired c.args.platform.items c.args.old c.args.new c.requires.platform c.requires.releases c.in-Ok.ensures.fits) c.in-Ok.ensures.fits
    c.in-Ok-found_between.found.judged.verdict (rw (c.in-Ok.ensures.old, c.in-Ok.ensures.new) at c.in-Ok-found_between.ensures.found.judged.exact) c.in-Ok-found_between.ensures.found.judged.few (check_of c.args.check.now) _ _
    (rw (c.in-Ok.ensures.old, c.in-Ok.ensures.new) at c.in-Ok-warned.ensures.exact) (rw (c.in-Ok.ensures.old, c.in-Ok.ensures.new) at dropped) (rw (c.in-Ok.ensures.old, c.in-Ok.ensures.new) at stopped)
