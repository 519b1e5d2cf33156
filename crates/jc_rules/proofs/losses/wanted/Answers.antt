use Rattle.std.proofs.Common.{◌≡◌, ◌<◌, ◌≤◌, sym, ap, ◌∙◌, nat_lt, arith}
use Rattle.jc_facts.specs.world.World.{size}
use Rattle.jc_facts.proofs.Options.{some_where-is}
use Rattle.jc_sides.specs.SidesOf.{SidesOf}
use Rattle.jc_acts.proofs.SetFlags.{one_more, all_flags}
use Rattle.jc_rules.specs.steps.Losses.{matters}
use Rattle.jc_rules.proofs.losses.wanted.Goals as goal

pub loop-n-preserved : goal.loop-n-preserved
loop-n-preserved c =
    let v : size c.sides.inside.old.now ≡ size c.args.sides.now.old = ap (λ (s : SidesOf). size s.old) c.sides.view_is in
    let l : c.loop-n.n < size c.args.sides.now.old = omega (arith, c.count-n-end.ensures.count) in
    let k : c.unwrap-id.result ≡ c.loop-n.n = some_where-is (nat_lt c.loop-n.n (size c.sides.inside.old.now)) c.loop-n.n c.unwrap-id.result (sym c.id.ensures.value ∙ c.unwrap-id.ensures) in
    one_more c.args.sides.now.old (matters c.args.sides.now) c.loop-n.flags.items c.push.new.self.items c.loop-n.n c.unwrap-id.result c.is_asked.result l k c.is_asked.ensures c.in_ok-push.ensures.items c.loop-n.invariant

pub returns : goal.returns
returns c =
    let v : size c.sides.inside.old.now ≡ size c.args.sides.now.old = ap (λ (s : SidesOf). size s.old) c.sides.view_is in
    let l : size c.args.sides.now.old ≤ c.loop-n.n = omega (arith, c.count-n-end.ensures.count) in
    all_flags c.args.sides.now.old (matters c.args.sides.now) c.loop-n.flags.items c.loop-n.n l c.loop-n.invariant
