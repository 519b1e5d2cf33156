use Rattle.std.proofs.Common.{◌<◌, ◌≤◌, sym, ◌∙◌, arith}
use Rattle.jc_facts.specs.world.World.{size}
use Rattle.jc_call_lines.specs.steps.JoinLines.{is_below}
use Rattle.jc_call_lines.proofs.JoinLeft.{passing_start, passing_more, passing_all}
use Rattle.jc_call_lines.proofs.joins.below.Goals as goal

pub loop-n-init : goal.loop-n-init
loop-n-init c = passing_start c.args.table.now (is_below c.args.table.now c.args.targets.now) c.new-ids.result.items c.new-ids.ensures.items

pub loop-n-preserved : goal.loop-n-preserved
loop-n-preserved c =
    let l : c.loop-n.n < size c.args.table.now = omega (arith, c.count-n-end.ensures.count) in
    passing_more c.args.table.now (is_below c.args.table.now c.args.targets.now) c.loop-n.n c.unwrap-id.result c.loop-n.ids.items c.push_some.new.items.items c.if_below.result l
    (sym c.id.ensures.value ∙ c.unwrap-id.ensures) c.loop-n.invariant c.if_below.ensures c.in_ok-push_some.ensures

pub returns : goal.returns
returns c =
    let l : size c.args.table.now ≤ c.loop-n.n = omega (arith, c.count-n-end.ensures.count) in
    record { within = c.loop-n.invariant.within; names = passing_all c.args.table.now (is_below c.args.table.now c.args.targets.now) c.loop-n.n c.loop-n.ids.items l c.loop-n.invariant }
