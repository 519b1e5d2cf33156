use Rattle.std.proofs.Common.{sym, ◌∙◌}
use Rattle.jc_call_lines.specs.steps.Openly.{is_owner_open}
use Rattle.jc_call_lines.proofs.Chosen.{front_said, above_holds, shut_said}
use Rattle.jc_call_lines.proofs.openly.are_owners_open.Goals as goal

pub returns-then-not-is_nameable : goal.returns-then-not-is_nameable
returns-then-not-is_nameable c =
    shut_said c.args.table.now c.count-classes.ensures.side c.args.class c.requires.class c.requires.loads c.args.key.now c.args.found c.requires.found c.requires.owner c.is_nameable.result c.is_nameable.ensures c.if-not-is_nameable.true

pub returns-then-is_front : goal.returns-then-is_front
returns-then-is_front c =
    front_said c.args.table.now c.count-classes.ensures.side c.args.class c.requires.class c.requires.loads c.args.key.now c.args.found c.requires.found c.requires.owner c.is_front.result c.is_front.ensures c.if-is_front.true
    (sym c.is_nameable.ensures ∙ c.if-not-is_nameable.false)

pub returns : goal.returns
returns c =
    above_holds c.args.table.now c.count-classes.ensures.side c.args.class c.requires.class c.requires.loads c.args.key.now c.args.found c.requires.found c.requires.owner (is_owner_open c.args.table.now) c.is_front.result c.is_open_above.result c.is_front.ensures c.if-is_front.false c.is_open_above.ensures
