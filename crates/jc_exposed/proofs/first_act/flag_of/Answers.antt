use Rattle.std.proofs.Common.{◌==◌, ap}
use Rattle.jc_exposed.proofs.OwnNamings.{flag_next}
use Rattle.jc_exposed.proofs.first_act.flag_of.Goals as goal

pub loop-n-preserved : goal.loop-n-preserved
loop-n-preserved c = flag_next c.loop-n.flags.items c.push.new.self.items c.loop-n.n c.args.class (c.loop-n.n == c.number.result) (ap (λ m. c.loop-n.n == m) c.number.ensures) c.in_ok-push.ensures.items c.loop-n.invariant
