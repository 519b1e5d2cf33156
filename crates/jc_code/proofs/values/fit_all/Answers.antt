use Rattle.std.proofs.Common.{◌+◌, ◌<◌, drop, length, refl, sym, ap, ◌∙◌, arith}
use Rattle.std.proofs.lemmas.List.{drop_more, drop_all, length-map}
use Rattle.jc_facts.specs.code.Typing as typing
use Rattle.jc_code.specs.declared.kinds.Kind.TheVariants as kinds
use Rattle.jc_code.specs.steps.KindView.{kind_view, kinds_in}
use Rattle.jc_code.specs.steps.Pushed.{onto}
use Rattle.jc_code.proofs.Added.{fit_step, fit_bad, fit_done, fit_unequal}
use Rattle.jc_code.proofs.values.fit_all.Goals as goal

pub returns-then-kinds-due : goal.returns-then-kinds-due
returns-then-kinds-due c = rw (fit_unequal (kinds_in c.args.kinds.now) (kinds_in c.args.due.now) (λ e. c.if-kinds-due.true (sym (length-map c.args.kinds.now kind_view) ∙ e ∙ length-map c.args.due.now kind_view))) refl

pub returns-then-not-branch : goal.returns-then-not-branch
returns-then-not-branch c =
    let here : c.loop-i.i < length c.args.kinds.now = omega (arith, c.if-kinds-due.false) in
    fit_bad _ _ (kinds_in (drop (c.loop-i.i + 1) c.args.kinds.now)) (kinds_in (drop (c.loop-i.i + 1) c.args.due.now)) (kinds_in (drop c.loop-i.i c.args.kinds.now)) (kinds_in (drop c.loop-i.i c.args.due.now)) c.loop-i.items.items c.fit.new.items.items (onto c.args.items.now.items (typing.fit_all (kinds_in c.args.kinds.now) (kinds_in c.args.due.now)))
    (ap kinds_in (drop_more c.args.kinds.now c.loop-i.i kinds.Int here)) (ap kinds_in (drop_more c.args.due.now c.loop-i.i kinds.Int (omega arith))) (rw c.if-not-branch.true at c.in_ok-fit.ensures) c.loop-i.invariant

pub loop-i-preserved : goal.loop-i-preserved
loop-i-preserved c =
    let here : c.loop-i.i < length c.args.kinds.now = omega (arith, c.if-kinds-due.false) in
    fit_step _ _ (kinds_in (drop (c.loop-i.i + 1) c.args.kinds.now)) (kinds_in (drop (c.loop-i.i + 1) c.args.due.now)) (kinds_in (drop c.loop-i.i c.args.kinds.now)) (kinds_in (drop c.loop-i.i c.args.due.now)) c.loop-i.items.items c.fit.new.items.items (onto c.args.items.now.items (typing.fit_all (kinds_in c.args.kinds.now) (kinds_in c.args.due.now)))
    (ap kinds_in (drop_more c.args.kinds.now c.loop-i.i kinds.Int here)) (ap kinds_in (drop_more c.args.due.now c.loop-i.i kinds.Int (omega arith))) (rw c.if-not-branch.false at c.in_ok-fit.ensures) c.loop-i.invariant

pub returns : goal.returns
returns c = fit_done (kinds_in (drop c.loop-i.i c.args.kinds.now)) (kinds_in (drop c.loop-i.i c.args.due.now)) c.loop-i.items.items (onto c.args.items.now.items (typing.fit_all (kinds_in c.args.kinds.now) (kinds_in c.args.due.now)))
    (ap kinds_in (drop_all c.loop-i.i c.args.kinds.now (omega (arith, c.if-kinds-due.false)))) (ap kinds_in (drop_all c.loop-i.i c.args.due.now (omega arith))) c.loop-i.invariant
