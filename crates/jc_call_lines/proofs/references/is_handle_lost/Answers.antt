use Rattle.jc_sides.specs.SharedOf.{name_of}
use Rattle.jc_call_lines.proofs.LostReferences.{new_open, none_referable, by_old}
use Rattle.jc_call_lines.proofs.references.is_handle_lost.Goals as goal

pub returns-then-is_declared_openly : goal.returns-then-is_declared_openly
returns-then-is_declared_openly c =
    new_open c.args.sides.now (name_of c.args.class.now) c.args.key.now c.requires.kind c.is_declared_openly.result c.is_declared_openly.ensures c.if-is_declared_openly.true

pub returns-then-not-was_referable : goal.returns-then-not-was_referable
returns-then-not-was_referable c =
    none_referable c.args.sides.now (name_of c.args.class.now) c.args.key.now c.requires.kind c.was_referable.result c.was_referable.ensures c.if-not-was_referable.true

pub returns : goal.returns
returns c =
    by_old c.args.sides.now (name_of c.args.class.now) c.args.key.now c.requires.kind c.is_declared_openly.result c.was_referable.result c.was_declared_openly.result
    c.is_declared_openly.ensures c.if-is_declared_openly.false c.was_referable.ensures c.if-not-was_referable.false c.was_declared_openly.ensures
