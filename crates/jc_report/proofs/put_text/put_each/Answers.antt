use Rattle.std.proofs.Common.{arith}
use Rattle.jc_report.specs.steps.Fronted.{fronted}
use Rattle.jc_report.proofs.Puts.{put_more, put_failed}
use Rattle.jc_report.proofs.TextPut.{no_line, next_line}
use Rattle.jc_report.proofs.put_text.put_each.Goals as goal

pub returns-in-Err-clause-err : goal.returns-in-Err-clause-err
returns-in-Err-clause-err g c =
    put_failed _ _ _ _ _ _
    (next_line (fronted c.args.front.now g.E.Entry.printed) c.args.first c.args.items.now c.loop-i.i c.index-items-i.result _ _ _ c.loop-i-test.true c.index-items-i.is c.loop-i.invariant.put) c.in-Err.ensures.err

pub loop-i-init : goal.loop-i-init
loop-i-init g c = record { put = no_line (fronted c.args.front.now g.E.Entry.printed) c.args.first c.args.items.now (g.O.Sink.state c.args.out.now).taken; never_falls = omega arith }

pub loop-i-preserved : goal.loop-i-preserved
loop-i-preserved g c = record {
  put =
      put_more _ _ _ _ _ _
      (next_line (fronted c.args.front.now g.E.Entry.printed) c.args.first c.args.items.now c.loop-i.i c.index-items-i.result _ _ _ c.loop-i-test.true c.index-items-i.is c.loop-i.invariant.put) c.in-Ok.ensures.ok;
  never_falls = omega (arith, c.loop-i.invariant.never_falls, c.in-Ok.ensures.never_falls);
}
