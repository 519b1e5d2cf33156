use Rattle.std.proofs.Common.{◌≡◌, drop}
use Rattle.jc_facts.specs.code.Typing as typing
use Rattle.jc_code.specs.steps.KindView.{kinds_in}
use Rattle.jc_code.specs.steps.Pushed.{onto}
use Rattle.jc_code.proofs.values.fit_all.Given as goal

abbrev pub invariant-loop-i : goal.invariant-loop-i
invariant-loop-i l = onto l.items.items (typing.fit_all (kinds_in (drop l.i l.kinds)) (kinds_in (drop l.i l.due))) ≡ onto l.fn.items.items (typing.fit_all (kinds_in l.kinds) (kinds_in l.due))
