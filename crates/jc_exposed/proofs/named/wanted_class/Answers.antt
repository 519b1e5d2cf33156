use Rattle.std.proofs.Common.{[], ◌∙◌, false, get_or, sym, ap, subst}
use Rattle.std.specs.List.{cons_option}
use Rattle.std.specs.Str.{bytes_eq}
use Rattle.jc_acts.specs.Touched.{flag_at}
use Rattle.jc_exposed.specs.Named.{Lists}
use Rattle.jc_exposed.proofs.MarkedLengths.{not_long}
use Rattle.jc_exposed.proofs.NamedClasses.{found_not, found_one}
use Rattle.jc_exposed.proofs.named.wanted_class.Goals as goal

pub returns-then-not-may_be : goal.returns-then-not-may_be
returns-then-not-may_be c = not_long c.args.table.now c.args.wanted.now c.args.lengths.now c.args.name.now c.requires.lengths (sym c.may_be.ensures ∙ c.if-not-may_be.true)

pub returns-in-Some : goal.returns-in-Some
returns-in-Some c =
    subst (λ o. Lists c.args.table.now (flag_at c.args.wanted.now) (λ x. bytes_eq c.args.name.now x) (cons_option o [])) (sym c.then_some.ensures)
    (found_one c.args.table.now (flag_at c.args.wanted.now) c.requires.side c.args.name.now c.in-Some.id (sym c.in-Some.is ∙ c.get.ensures.value) (get_or c.args.wanted.now c.number.result false) (ap (flag_at c.args.wanted.now) c.number.ensures))

pub returns-in-None : goal.returns-in-None
returns-in-None c = found_not c.args.table.now (flag_at c.args.wanted.now) c.requires.side c.args.name.now (sym c.in-None.is ∙ c.get.ensures.value)
