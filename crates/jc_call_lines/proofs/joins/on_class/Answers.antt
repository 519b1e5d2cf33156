use Rattle.std.proofs.Common.{◌<◌, subst, sym}
use Rattle.std.proofs.lemmas.List.Elements.{All-get_or}
use Rattle.jc_facts.specs.world.World.{size}
use Rattle.jc_index.specs.Ids.{name_at}
use Rattle.jc_sides.proofs.ByItems.{keys_more}
use Rattle.jc_call_lines.specs.steps.JoinLines.{IsServed, join_line}
use Rattle.jc_call_lines.proofs.joins.on_class.Goals as goal

pub line_on-requires-clause-target : goal.line_on-requires-clause-target
line_on-requires-clause-target c =
    subst (λ t. t < size c.args.sides.now.old) (sym c.target-item.is) (All-get_or (λ t. t < size c.args.sides.now.old) c.args.targets.now c.loop-target.target-index c.target-item.result c.loop-target-test.true c.requires.targets)

pub line_on-requires-clause-served : goal.line_on-requires-clause-served
line_on-requires-clause-served c =
    subst (IsServed c.args.sides.now c.args.exposed.now c.args.below.now) (sym c.target-item.is)
    (All-get_or (IsServed c.args.sides.now c.args.exposed.now c.args.below.now) c.args.targets.now c.loop-target.target-index c.target-item.result c.loop-target-test.true c.requires.served)

pub loop-target-preserved : goal.loop-target-preserved
loop-target-preserved c =
    keys_more (λ t. join_line c.args.sides.now (name_at c.args.sides.now.old c.args.class) (name_at c.args.sides.now.old t)) c.args.targets.now c.loop-target.target-index c.target-item.result c.in_ok-line_on.field-0 c.loop-target.lines.items c.push_some.new.items.items
    c.loop-target-test.true c.target-item.is c.loop-target.invariant c.in_ok-line_on.ensures c.in_ok-push_some.ensures
