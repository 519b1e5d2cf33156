use Rattle.std.proofs.Common.{ap}
use Rattle.std.proofs.lemmas.Result.{IfOk-weaker}
use Rattle.std.specs.Option.{option_copied}
use Rattle.jc_sides.specs.SidesOf.{SidesOf}
use Rattle.jc_drafts.proofs.TwoNames.{no_beside, no_class_beside, of_class_beside}
use Rattle.jc_drafts.proofs.two_names.beside_of.Goals as goal

pub returns-in_default : goal.returns-in_default
returns-in_default c = IfOk-weaker _ _ _ (λ name q. no_beside c.args.sides.now c.sides.inside.old.now (ap (λ (s : SidesOf). s.old) c.sides.view_is) c.args.class.now c.args.other.now c.in_default.ensures (option_copied name) q) c.permitted_of.ensures

pub returns-in_default-record_of : goal.returns-in_default-record_of
returns-in_default-record_of c = no_class_beside c.args.sides.now c.sides.inside.old.now (ap (λ (s : SidesOf). s.old) c.sides.view_is) c.args.class.now c.args.other.now c.in_default-record_of.ensures

pub returns : goal.returns
returns c =
    IfOk-weaker _ _ _ (λ name q. of_class_beside c.args.sides.now c.sides.inside.old.now (ap (λ (s : SidesOf). s.old) c.sides.view_is) c.args.class.now c.args.other.now c.in-Some-record_of.before.now c.in-Some.beside.now c.names_of.result.now (option_copied name) c.in-Some.ensures c.in-Some-record_of.ensures c.names_of.ensures q) c.first_beside_class.ensures
