use Rattle.jc_sides.specs.SharedOf.{name_of}
use Rattle.jc_call_lines.proofs.AccessLines.{base, made_line}
use Rattle.jc_call_lines.proofs.access.AccessAddedItemRule.on_key.Goals as goal

pub is_due-due-requires-clause-covered : goal.is_due-due-requires-clause-covered
is_due-due-requires-clause-covered c = base c.args.sides.now (name_of c.args.class.now) c.requires.covered

pub returns : goal.returns
returns c =
    made_line c.args.sides.now (name_of c.args.class.now) c.args.key.now c.is_due-due.result c.broken_where.result (base c.args.sides.now (name_of c.args.class.now) c.requires.covered) c.is_due-due.ensures c.broken_where.ensures
