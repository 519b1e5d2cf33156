use Rattle.std.proofs.Common.{◌≡◌, ◌<◌, ◌≤◌, sym, ◌∙◌, nat_lt, arith}
use Rattle.jc_facts.specs.world.World.{size}
use Rattle.jc_facts.proofs.Options.{some_where-is}
use Rattle.jc_acts.specs.Touched.{passes_above}
use Rattle.jc_acts.proofs.SetFlags.{one_more, all_flags}
use Rattle.jc_acts.proofs.touched.with_those_below.Goals as goal

pub loop-n-init : goal.loop-n-init
loop-n-init c = (c.in_ok-known.ensures.count, λ p are. (c.in_ok-known.ensures.known p are, c.new-below.ensures.items))

pub loop-n-preserved : goal.loop-n-preserved
loop-n-preserved c =
    let l : c.loop-n.n < size c.args.table.now = omega (arith, c.count-n-end.ensures.count) in
    let k : c.unwrap-id.result ≡ c.loop-n.n = some_where-is (nat_lt c.loop-n.n (size c.args.table.now)) c.loop-n.n c.unwrap-id.result (sym c.id.ensures.value ∙ c.unwrap-id.ensures) in (
      c.ask.ensures.count,
      λ p are.
          let so = c.loop-n.invariant.1 p are in (
            c.ask.ensures.known p so.0,
            one_more c.args.table.now (passes_above c.args.table.now p) c.loop-n.below.items c.push.new.self.items c.loop-n.n c.unwrap-id.result c.ask.result l k (c.ask.ensures.answer p so.0) c.in_ok-push.ensures.items so.1,
          ),
    )

pub returns : goal.returns
returns c = λ p are.
    let l : size c.args.table.now ≤ c.loop-n.n = omega (arith, c.count-n-end.ensures.count) in
    all_flags c.args.table.now (passes_above c.args.table.now p) c.loop-n.below.items c.loop-n.n l (c.loop-n.invariant.1 p are).1
