use Rattle.jc_report.proofs.TextPut.{findings_failed, collisions_failed, notes_failed, last_failed, last_put}
use Rattle.jc_report.proofs.put_text.put_fronted.Goals as goal

pub returns-in-Err-clause-err : goal.returns-in-Err-clause-err
returns-in-Err-clause-err g c =
    findings_failed c.args.front.now c.args.verdict.now (g.O.Sink.state c.args.out.now).taken (g.O.Sink.state c.put_each.new.out).taken (rw c.as_slice-findings.ensures at c.in-Err.ensures.err)

pub returns-in-Err-put_each-clause-err : goal.returns-in-Err-put_each-clause-err
returns-in-Err-put_each-clause-err g c =
    collisions_failed c.args.front.now c.args.verdict.now (g.O.Sink.state c.args.out.now).taken (g.O.Sink.state c.put_each.new.out).taken (g.O.Sink.state c.put_each-2.new.out).taken
    (rw c.as_slice-findings.ensures at c.in-Ok.ensures.ok) (rw (c.as_slice-findings.ensures, c.as_slice.ensures) at c.in-Err-put_each.ensures.err)

pub returns-in-Err-put_each-2-clause-err : goal.returns-in-Err-put_each-2-clause-err
returns-in-Err-put_each-2-clause-err g c =
    notes_failed c.args.front.now c.args.verdict.now (g.O.Sink.state c.args.out.now).taken (g.O.Sink.state c.put_each.new.out).taken (g.O.Sink.state c.put_each-2.new.out).taken
    (rw c.as_slice-findings.ensures at c.in-Ok.ensures.ok) (g.O.Sink.state c.put_each-3.new.out).taken (rw (c.as_slice-findings.ensures, c.as_slice.ensures) at c.in-Ok-put_each.ensures.ok)
    (rw c.as_slice-2.ensures at c.in-Err-put_each-2.ensures.err)

pub returns-in-Ok-put_last-clause-ok : goal.returns-in-Ok-put_last-clause-ok
returns-in-Ok-put_last-clause-ok g c =
    last_put c.args.front.now c.args.verdict.now (g.O.Sink.state c.args.out.now).taken (g.O.Sink.state c.put_each.new.out).taken (g.O.Sink.state c.put_each-2.new.out).taken
    (rw c.as_slice-findings.ensures at c.in-Ok.ensures.ok) (g.O.Sink.state c.put_each-3.new.out).taken (rw (c.as_slice-findings.ensures, c.as_slice.ensures) at c.in-Ok-put_each.ensures.ok)
    (g.O.Sink.state c.put_last.new.out).taken (rw c.as_slice-2.ensures at c.in-Ok-put_each-2.ensures.ok) c.in-Ok-put_last.ensures.ok

pub returns-in-Err-put_last-clause-err : goal.returns-in-Err-put_last-clause-err
returns-in-Err-put_last-clause-err g c =
    last_failed c.args.front.now c.args.verdict.now (g.O.Sink.state c.args.out.now).taken (g.O.Sink.state c.put_each.new.out).taken (g.O.Sink.state c.put_each-2.new.out).taken
    (rw c.as_slice-findings.ensures at c.in-Ok.ensures.ok) (g.O.Sink.state c.put_each-3.new.out).taken (rw (c.as_slice-findings.ensures, c.as_slice.ensures) at c.in-Ok-put_each.ensures.ok)
    (g.O.Sink.state c.put_last.new.out).taken (rw c.as_slice-2.ensures at c.in-Ok-put_each-2.ensures.ok) c.in-Err-put_last.ensures.err
