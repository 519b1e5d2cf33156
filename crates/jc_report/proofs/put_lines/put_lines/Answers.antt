use Rattle.std.proofs.Common.{arith}
use Rattle.jc_report.proofs.Puts.{put_more, put_failed}
use Rattle.jc_report.proofs.put_lines.put_lines.Goals as goal

pub loop-rest-preserved : goal.loop-rest-preserved
loop-rest-preserved g c = record {
  put = put_more _ _ _ _ _ _ (rw c.split_line.ensures.whole at c.loop-rest.invariant.put) c.in-Ok.ensures.ok;
  never_falls = omega (arith, c.in-Ok.ensures.never_falls);
}

pub returns-in-Err-clause-err : goal.returns-in-Err-clause-err
returns-in-Err-clause-err g c = put_failed _ _ _ _ _ _ (rw c.split_line.ensures.whole at c.loop-rest.invariant.put) c.in-Err.ensures.err
