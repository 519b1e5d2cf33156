use Rattle.jc_report.proofs.HistoryPut.{steps_failed, last_failed, last_put}
use Rattle.jc_report.proofs.put_history.put_history.Goals as goal

pub returns-in-Err-clause-err : goal.returns-in-Err-clause-err
returns-in-Err-clause-err g c = steps_failed c.args.verdicts.now (g.O.Sink.state c.args.out.now).taken (g.O.Sink.state c.put_steps.new.out).taken c.in-Err.ensures.err

pub returns-in-Ok-put_last-clause-ok : goal.returns-in-Ok-put_last-clause-ok
returns-in-Ok-put_last-clause-ok g c =
    last_put c.args.verdicts.now (g.O.Sink.state c.args.out.now).taken (g.O.Sink.state c.put_steps.new.out).taken (g.O.Sink.state c.put_last.new.out).taken c.in-Ok.ensures.ok c.in-Ok-put_last.ensures.ok

pub returns-in-Err-put_last-clause-err : goal.returns-in-Err-put_last-clause-err
returns-in-Err-put_last-clause-err g c =
    last_failed c.args.verdicts.now (g.O.Sink.state c.args.out.now).taken (g.O.Sink.state c.put_steps.new.out).taken (g.O.Sink.state c.put_last.new.out).taken c.in-Ok.ensures.ok c.in-Err-put_last.ensures.err
