use Rattle.std.proofs.Common.{◌≡◌, arith, ap, nat_lt, sym, subst, ◌∙◌}
use Rattle.jc_facts.specs.world.World.{size}
use Rattle.jc_facts.proofs.Options.{some_where-is}
use Rattle.jc_sides.specs.SidesOf.{SidesOf}
use Rattle.jc_exposed.specs.Exposed.{AreStarts}
use Rattle.jc_exposed.proofs.SeatStarts.{starts_none, starts_next}
use Rattle.jc_exposed.proofs.exposed.starts.Goals as goal

pub loop-n-init : goal.loop-n-init
loop-n-init c = starts_none c.args.sides.now c.args.rows.now c.new-starts.result.items c.new-starts.ensures.items

pub loop-n-preserved : goal.loop-n-preserved
loop-n-preserved c =
    let k : c.unwrap-id.result ≡ c.loop-n.n = some_where-is (nat_lt c.loop-n.n (size c.sides.inside.old.now)) c.loop-n.n c.unwrap-id.result (sym c.id.ensures.value ∙ c.unwrap-id.ensures) in
    starts_next c.args.sides.now c.args.rows.now c.loop-n.n c.unwrap-id.result c.start_where.result c.loop-n.starts.items c.push.new.self.items k c.in_ok-push.ensures.items c.start_where.ensures c.loop-n.invariant

pub returns : goal.returns
returns c =
    let v : size c.sides.inside.old.now ≡ size c.args.sides.now.old = ap (λ (s : SidesOf). size s.old) c.sides.view_is in
    let n : c.loop-n.n ≡ size c.args.sides.now.old = omega (arith, c.count-n-end.ensures.count) in
    subst (λ m. AreStarts c.args.sides.now c.args.rows.now m c.loop-n.starts.items) n c.loop-n.invariant
