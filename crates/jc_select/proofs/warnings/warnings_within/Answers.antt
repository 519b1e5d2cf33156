use Rattle.std.proofs.Common.{Some, option_map, subst}
use Rattle.jc_sides.specs.Limit.{IsWithin}
use Rattle.jc_sides.specs.SidesOf.{SidesOf}
use Rattle.jc_promises.specs.rule.Warnings.{WarningStands, warning_order}
use Rattle.jc_select.proofs.Answered.{answer_within}
use Rattle.jc_select.proofs.Limited.{within}
use Rattle.jc_select.proofs.warnings.warnings_within.Goals as goal

pub returns-clause-exact : goal.returns-clause-exact
returns-clause-exact c =
    within c.args.old.now c.args.new.now c.args.most (option_map (λ ws. ws.items) c.in_ok-made.made)
    (subst (λ (s : SidesOf). IsWithin warning_order (WarningStands s.old s.new) (Some c.args.most) (option_map (λ ws. ws.items) c.in_ok-made.made)) c.in_ok-sides.ensures c.in_ok-made.ensures)

pub returns-clause-answered : goal.returns-clause-answered
returns-clause-answered c =
    answer_within c.args.old.now c.args.new.now c.count-old.ensures.side c.count-new.ensures.side c.requires c.args.most (option_map (λ ws. ws.items) c.in_ok-made.made)
    (within c.args.old.now c.args.new.now c.args.most (option_map (λ ws. ws.items) c.in_ok-made.made)
    (subst (λ (s : SidesOf). IsWithin warning_order (WarningStands s.old s.new) (Some c.args.most) (option_map (λ ws. ws.items) c.in_ok-made.made)) c.in_ok-sides.ensures c.in_ok-made.ensures))
