use Rattle.jc_index.specs.Ids.{name_at}
use Rattle.std.proofs.Common.{◌<◌, sym, ◌∙◌, subst}
use Rattle.std.specs.Prelude.{IfSome}
use Rattle.jc_facts.specs.world.World.{size}
use Rattle.jc_acts.proofs.Wider.{through, super_wider, wider_on, root_wider}
use Rattle.jc_acts.proofs.commons.meeting.Goals as goal

pub loop-init : goal.loop-init
loop-init c = (c.requires.one, λ b l h. h)

pub returns-then-has_super-clause-other : goal.returns-then-has_super-clause-other
returns-then-has_super-clause-other c = through c.args.table.now (name_at c.args.table.now c.args.other) (name_at c.args.table.now c.loop.class) (sym c.has_super.ensures ∙ c.if-has_super.true)

pub returns-in-None-clause-one : goal.returns-in-None-clause-one
returns-in-None-clause-one c = root_wider c.args.table.now c.count-end.ensures.side (name_at c.args.table.now c.args.one) c.root_of.result c.root_of.ensures.name

pub returns-in-None-clause-other : goal.returns-in-None-clause-other
returns-in-None-clause-other c = root_wider c.args.table.now c.count-end.ensures.side (name_at c.args.table.now c.args.other) c.root_of.result c.root_of.ensures.name

pub loop-preserved : goal.loop-preserved
loop-preserved c = (
  subst (λ o. IfSome o (λ id. id < size c.args.table.now)) c.in-Some.is c.superclass.ensures.of_table,
  wider_on c.args.table.now (name_at c.args.table.now c.args.one) (name_at c.args.table.now c.loop.class) (name_at c.args.table.now c.in-Some.above) c.loop.invariant.1 (super_wider c.args.table.now (name_at c.args.table.now c.loop.class) c.in-Some.above (sym c.superclass.ensures.value ∙ c.in-Some.is)),
)

pub returns-clause-one : goal.returns-clause-one
returns-clause-one c = root_wider c.args.table.now c.count-end.ensures.side (name_at c.args.table.now c.args.one) c.root_of-2.result c.root_of-2.ensures.name

pub returns-clause-other : goal.returns-clause-other
returns-clause-other c = root_wider c.args.table.now c.count-end.ensures.side (name_at c.args.table.now c.args.other) c.root_of-2.result c.root_of-2.ensures.name
