use Rattle.std.proofs.Common.{ap}
use Rattle.jc_index.specs.Ids.{name_at}
use Rattle.jc_sides.specs.SidesOf.{SidesOf}
use Rattle.jc_call_lines.proofs.ConstantLines.{line_is, no_line}
use Rattle.jc_call_lines.proofs.constants.line_on.Goals as goal

pub returns-then-not-due : goal.returns-then-not-due
returns-then-not-due c = no_line c.args.sides.now (name_at c.args.sides.now.old c.args.id) c.in_ok-due.due c.in_ok-due.ensures c.if-not-due.true

pub returns : goal.returns
returns c =
    line_is c.args.sides.now c.sides.inside.old.now c.args.id (ap (λ (s : SidesOf). s.old) c.sides.view_is) c.facts.result.now c.in_ok-copy.field-0 c.in_ok-due.due
    c.facts.ensures c.in_ok-copy.ensures c.in_ok-due.ensures c.if-not-due.false
