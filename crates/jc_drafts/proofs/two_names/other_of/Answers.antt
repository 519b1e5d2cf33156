use Rattle.std.proofs.Common.{ap, subst}
use Rattle.std.specs.Option.{option_copied}
use Rattle.std.specs.List.Sorted.{IsPermutation}
use Rattle.jc_sides.specs.SidesOf.{SidesOf}
use Rattle.jc_drafts.proofs.TwoNames.{no_class_other, of_class_other}
use Rattle.jc_drafts.proofs.two_names.other_of.Goals as goal

pub returns-in_default : goal.returns-in_default
returns-in_default c = no_class_other c.args.sides.now c.sides.inside.old.now (ap (λ (s : SidesOf). s.old) c.sides.view_is) c.args.class.now c.args.taken.now c.in_default.ensures

pub returns : goal.returns
returns c =
    of_class_other c.args.sides.now c.sides.inside.old.now (ap (λ (s : SidesOf). s.old) c.sides.view_is) c.args.class.now c.args.taken.now c.in-Some.before.now c.names_of.result.now c.in_ok-taken.taken (option_copied c.first_allowed.result) c.in-Some.ensures c.names_of.ensures
    (subst (λ xs. IsPermutation xs c.in_ok-taken.taken) c.from_ref.ensures.value c.in_ok-taken.ensures) c.first_allowed.ensures
