use Rattle.std.proofs.Common.{arith}
use Rattle.jc_report.proofs.Puts.{put_nothing, put_more, put_failed}
use Rattle.jc_report.proofs.HistoryPut.{next_step}
use Rattle.jc_report.specs.HistoryText.{step_lines}
use Rattle.jc_report.proofs.put_history.put_steps.Goals as goal

pub returns-in-Err-clause-err : goal.returns-in-Err-clause-err
returns-in-Err-clause-err g c =
    put_failed _ _ _ _ _ _ (next_step c.args.verdicts.now c.loop-i.i c.index-verdicts-i.result _ _ _ c.loop-i-test.true c.index-verdicts-i.is c.loop-i.invariant.put) c.in-Err.ensures.err

pub loop-i-init : goal.loop-i-init
loop-i-init g c = record { put = put_nothing (g.O.Sink.state c.args.out.now).taken (step_lines 1 c.args.verdicts.now); never_falls = omega arith }

pub loop-i-preserved : goal.loop-i-preserved
loop-i-preserved g c = record {
  put =
      put_more _ _ _ _ _ _ (next_step c.args.verdicts.now c.loop-i.i c.index-verdicts-i.result _ _ _ c.loop-i-test.true c.index-verdicts-i.is c.loop-i.invariant.put) c.in-Ok.ensures.ok;
  never_falls = omega (arith, c.loop-i.invariant.never_falls, c.in-Ok.ensures.never_falls);
}
