use Rattle.std.proofs.Common.{◌≡◌, ◌<◌, ◌≤◌, ◌&&◌, sym, ◌∙◌, nat_lt, arith}
use Rattle.jc_facts.specs.world.World.{size}
use Rattle.jc_facts.proofs.Options.{some_where-is}
use Rattle.jc_acts.proofs.SetFlags.{one_more, all_flags}
use Rattle.jc_promises.specs.rule.Exposed.{is_hidden}
use Rattle.jc_call_lines.specs.steps.JoinLines.{is_below}
use Rattle.jc_call_lines.proofs.joins.wanted.Goals as goal

pub loop-n-preserved : goal.loop-n-preserved
loop-n-preserved c =
    let l : c.loop-n.n < size c.args.table.now = omega (arith, c.count-n-end.ensures.count) in
    let k : c.unwrap-id.result ≡ c.loop-n.n = some_where-is (nat_lt c.loop-n.n (size c.args.table.now)) c.loop-n.n c.unwrap-id.result (sym c.id.ensures.value ∙ c.unwrap-id.ensures) in
    one_more c.args.table.now (λ x. is_hidden c.args.table.now x && is_below c.args.table.now c.args.targets.now x) c.loop-n.flags.items c.push.new.self.items c.loop-n.n c.unwrap-id.result c.is_wanted.result l k c.is_wanted.ensures c.in_ok-push.ensures.items c.loop-n.invariant

pub returns : goal.returns
returns c =
    let l : size c.args.table.now ≤ c.loop-n.n = omega (arith, c.count-n-end.ensures.count) in
    all_flags c.args.table.now (λ x. is_hidden c.args.table.now x && is_below c.args.table.now c.args.targets.now x) c.loop-n.flags.items c.loop-n.n l c.loop-n.invariant
