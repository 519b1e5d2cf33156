use Rattle.std.proofs.Common.{sym, ◌∙◌}
use Rattle.jc_access.proofs.Assigned.{assign-absent, assign-interface, assign-chain, assign-nothing}
use Rattle.jc_access.proofs.assigning.assign_class.Goals as goal

pub returns-in_default : goal.returns-in_default
returns-in_default c = assign-absent c.args.table.now c.args.from.now c.args.to.now (sym c.eq.ensures ∙ c.if-eq.false) c.in_default.ensures.value

pub returns-then-is_interface : goal.returns-then-is_interface
returns-then-is_interface c =
    assign-interface c.args.table.now c.args.from.now c.args.to.now (sym c.eq.ensures ∙ c.if-eq.false) c.in-Some.above c.facts.result.now c.in-Some.ensures.value c.facts.ensures c.is_interface.result c.is_interface.ensures
    c.if-is_interface.true

pub returns-in-Some-get : goal.returns-in-Some-get
returns-in-Some-get c =
    assign-chain c.args.table.now c.args.from.now c.args.to.now (sym c.eq.ensures ∙ c.if-eq.false) c.in-Some.above c.facts.result.now c.in-Some.ensures.value c.facts.ensures c.is_interface.result c.has_super.result c.in-Some-get.class
    c.is_interface.ensures c.if-is_interface.false c.in-Some-get.ensures.value c.has_super.ensures

pub returns-in-None : goal.returns-in-None
returns-in-None c =
    assign-nothing c.args.table.now c.args.from.now c.args.to.now (sym c.eq.ensures ∙ c.if-eq.false) c.in-Some.above c.facts.result.now c.in-Some.ensures.value c.facts.ensures c.is_interface.result c.is_interface.ensures
    c.if-is_interface.false c.in-None.ensures.value
