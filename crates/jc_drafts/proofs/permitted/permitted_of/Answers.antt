use Rattle.std.proofs.Common.{[], ap, ◌∙◌}
use Rattle.jc_sides.specs.SidesOf.{SidesOf}
use Rattle.jc_drafts.proofs.PermittedNames.{no_class, of_class, by_set}
use Rattle.jc_drafts.proofs.permitted.permitted_of.Goals as goal

pub returns-in_default : goal.returns-in_default
returns-in_default c = no_class c.args.sides.now c.sides.inside.old.now (ap (λ (s : SidesOf). s.old) c.sides.view_is) c.args.class.now c.in_default.ensures

pub returns : goal.returns
returns c =
    of_class c.args.sides.now c.sides.inside.old.now (ap (λ (s : SidesOf). s.old) c.sides.view_is) c.args.class.now c.in-Some.before.now c.names_of.result.now _ c.in-Some.ensures c.names_of.ensures
    (c.first_allowed.ensures ∙ by_set c.args.sides.now [] c.in_ok-none.none c.names_of.result.now c.in_ok-none.ensures)
