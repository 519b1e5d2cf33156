use Rattle.std.proofs.Common.{subst}
use Rattle.jc_base.specs.Outside.{TakesAll, TakesFront}
use Rattle.jc_report.proofs.TextPut.{bare_is}
use Rattle.jc_report.proofs.put_text.put_text.Goals as goal

pub returns-in-Ok-clause-ok : goal.returns-in-Ok-clause-ok
returns-in-Ok-clause-ok g c = subst (TakesAll (g.O.Sink.state c.args.out.now).taken (g.O.Sink.state c.put_fronted.new.out).taken) (bare_is c.args.verdict.now) c.in-Ok.ensures.ok

pub returns-in-Err-clause-err : goal.returns-in-Err-clause-err
returns-in-Err-clause-err g c = subst (TakesFront (g.O.Sink.state c.args.out.now).taken (g.O.Sink.state c.put_fronted.new.out).taken) (bare_is c.args.verdict.now) c.in-Err.ensures.err
