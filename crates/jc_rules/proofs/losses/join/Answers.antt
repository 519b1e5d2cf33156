use Rattle.std.proofs.Common.{◌≡◌, arith, length, subst}
use Rattle.jc_rules.specs.steps.Losses.{AreJoined}
use Rattle.jc_rules.proofs.JoinedFlags.{joined_none, joined_next}
use Rattle.jc_rules.proofs.losses.join.Goals as goal

pub loop-n-init : goal.loop-n-init
loop-n-init c = joined_none c.args.flags.now.items c.args.others.now

pub loop-n-preserved : goal.loop-n-preserved
loop-n-preserved c =
    joined_next c.args.flags.now.items c.args.others.now c.loop-n.flags.items c.set_if.new.flags.items c.loop-n.n c.set_if.ensures.count c.set_if.ensures.kept c.set_if.ensures.set c.loop-n.invariant

pub returns : goal.returns
returns c =
    let n : c.loop-n.n ≡ length c.args.others.now = omega arith in
    subst (λ m. AreJoined c.args.flags.now.items c.args.others.now m c.loop-n.flags.items) n c.loop-n.invariant
