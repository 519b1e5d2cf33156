use Rattle.std.proofs.Common.{None, subst}
use Rattle.jc_sides.specs.SidesOf.{SidesOf}
use Rattle.jc_promises.specs.rule.Warnings.{AreWarnings}
use Rattle.jc_select.proofs.Answered.{answer_still}
use Rattle.jc_select.proofs.KindsWarned.{always, exact_of}
use Rattle.jc_select.proofs.warnings.warnings.Goals as goal

pub unwrap-requires : goal.unwrap-requires
unwrap-requires c = always (λ ws. ws.items) c.in_ok-sides.sides c.in_ok-made.made c.in_ok-made.ensures

pub returns-clause-exact : goal.returns-clause-exact
returns-clause-exact c =
    subst (λ (s : SidesOf). AreWarnings s.old s.new c.unwrap.result.items) c.in_ok-sides.ensures
    (exact_of (λ ws. ws.items) c.in_ok-sides.sides None c.in_ok-made.made c.unwrap.result c.unwrap.ensures c.in_ok-made.ensures)

pub returns-clause-answered : goal.returns-clause-answered
returns-clause-answered c =
    answer_still c.args.old.now c.args.new.now c.count-old.ensures.side c.count-new.ensures.side c.requires c.unwrap.result.items
    (subst (λ (s : SidesOf). AreWarnings s.old s.new c.unwrap.result.items) c.in_ok-sides.ensures
    (exact_of (λ ws. ws.items) c.in_ok-sides.sides None c.in_ok-made.made c.unwrap.result c.unwrap.ensures c.in_ok-made.ensures))
