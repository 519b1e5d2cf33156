use Rattle.jc_witness.proofs.Refers.{can_refer}
use Rattle.jc_witness.proofs.plans.member_plan.Goals as goal

pub acting-requires : goal.acting-requires
acting-requires c = can_refer c.args.planner.now.old c.args.planner.now.new c.args.finding.now c.args.key.now c.in-Some.seat c.requires.stands c.requires.key c.in-Some.is
