use Rattle.std.proofs.Common.{sym, ◌∙◌, arith}
use Rattle.jc_access.specs.TypeTexts.{element_view}
use Rattle.jc_access.proofs.Assigned.{to_equal, to_less, to_more}
use Rattle.jc_access.proofs.assigning.assign.Goals as goal

pub returns-then-from-to : goal.returns-then-from-to
returns-then-from-to c = sym (to_less c.args.table.now c.args.from.dims c.args.to.dims (element_view c.args.from.element) (element_view c.args.to.element) (omega (arith, c.if-from-to.true)))

pub returns-then-to-from : goal.returns-then-to-from
returns-then-to-from c =
    c.takes_arrays.ensures ∙ sym (to_more c.args.table.now c.args.from.dims c.args.to.dims (element_view c.args.from.element) (element_view c.args.to.element) (omega (arith, c.if-to-from.true)))

pub returns : goal.returns
returns c =
    c.assign_element.ensures
    ∙ sym (to_equal c.args.table.now c.args.from.dims c.args.to.dims (element_view c.args.from.element) (element_view c.args.to.element) (omega (arith, c.if-from-to.false, c.if-to-from.false)))
