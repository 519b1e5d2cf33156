use Rattle.jc_witness.proofs.CanExpose.{exposed_by, exposed_class, exposed_target}
use Rattle.jc_witness.proofs.plans.plan_by_parts.Goals as goal

pub class_plan-requires : goal.class_plan-requires
class_plan-requires c =
    let f = c.args.finding.now in
    exposed_class c.args.planner.now.old c.args.planner.now.new f.key f.target f.seat f.«class» (exposed_by c.args.planner.now c.requires.ground f c.requires.stands) c.in-None-None.is-0 c.in-None-None.is-1

pub losing_from-requires : goal.losing_from-requires
losing_from-requires c =
    let f = c.args.finding.now in
    exposed_target c.args.planner.now.old c.args.planner.now.new f.key f.target f.seat f.«class» c.in-None-Some.target (exposed_by c.args.planner.now c.requires.ground f c.requires.stands) c.in-None-Some.is-0 c.in-None-Some.is-1
