use Rattle.std.proofs.Common.{◌∙◌, ap, sym, subst}
use Rattle.jc_base.specs.Outside.{TakesAll, TakesFront}
use Rattle.jc_report.specs.HistoryText.{step_front}
use Rattle.jc_report.specs.steps.Fronted.{fronted_text}
use Rattle.jc_report.proofs.Fronted.{fronted_is}
use Rattle.jc_report.proofs.put_history.put_step.Goals as goal

pub returns-in-Ok-put_fronted-clause-ok : goal.returns-in-Ok-put_fronted-clause-ok
returns-in-Ok-put_fronted-clause-ok g c =
    subst (TakesAll (g.O.Sink.state c.args.out.now).taken (g.O.Sink.state c.put_fronted.new.out).taken)
    (ap (λ front. fronted_text front c.args.verdict.now) (c.as_slice.ensures.value ∙ c.in-Ok.ensures) ∙ sym (fronted_is (step_front c.args.number) c.args.verdict.now)) c.in-Ok-put_fronted.ensures.ok

pub returns-clause-err : goal.returns-clause-err
returns-clause-err g c =
    subst (TakesFront (g.O.Sink.state c.args.out.now).taken (g.O.Sink.state c.put_fronted.new.out).taken)
    (ap (λ front. fronted_text front c.args.verdict.now) (c.as_slice.ensures.value ∙ c.in-Ok.ensures) ∙ sym (fronted_is (step_front c.args.number) c.args.verdict.now)) c.in-Err.ensures.err
