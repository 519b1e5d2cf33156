use Rattle.jc_sides.proofs.KeySets.{push_adds}
use Rattle.jc_sides.proofs.members.push_if.Goals as goal

pub returns-in_ok-push : goal.returns-in_ok-push
returns-in_ok-push c = push_adds c.args.member.now c.in_ok-key_of_member.field-0 c.args.wanted c.args.keys.now.items c.push.new.self.items c.if-wanted.true c.in_ok-key_of_member.ensures c.in_ok-push.ensures.items
