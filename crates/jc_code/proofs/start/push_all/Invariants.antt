use Rattle.std.proofs.Common.{◌≡◌, ◌++◌, drop}
use Rattle.jc_facts.specs.code.Typing as typing
use Rattle.jc_code.specs.steps.KindView.{kinds_in}
use Rattle.jc_code.proofs.start.push_all.Given as goal

abbrev pub invariant-loop-param : goal.invariant-loop-param
invariant-loop-param l = kinds_in l.locals.items ++ typing.places_of (kinds_in (drop l.param-index l.params)) ≡ kinds_in l.fn.locals.items ++ typing.places_of (kinds_in l.params)
