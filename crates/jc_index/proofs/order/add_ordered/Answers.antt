use Rattle.std.proofs.Common.{ℕ, get_or}
use Rattle.std.proofs.lemmas.List.{get_or_default}
use Rattle.jc_facts.specs.world.World.{classes}
use Rattle.jc_index.proofs.Merged.{one_placed}
use Rattle.jc_index.proofs.order.add_ordered.Goals as goal

pub loop-n-preserved : goal.loop-n-preserved
loop-n-preserved c =
    let behind : ℕ = get_or c.args.order.now c.loop-n.n 0 in
    one_placed (classes c.args.side.now) c.args.before c.args.order.now c.loop-n.n behind c.at-class.result.now c.args.places.now.items c.loop-n.places.items c.push.new.self.items c.as_bytes.result.now
    c.loop-n-test.true (get_or_default c.args.order.now c.loop-n.n 0 behind c.loop-n-test.true) c.at-class.ensures c.as_bytes.ensures c.in_ok-push.ensures.items c.loop-n.invariant
