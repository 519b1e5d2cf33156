use Rattle.std.proofs.Common.{ap, ◌∙◌}
use Rattle.jc_sides.specs.SharedOf.{name_of}
use Rattle.jc_declared.proofs.NoteConstant.{unchanged, undeclared, noted_by}
use Rattle.jc_declared.proofs.note_constant.note_on.Goals as goal

pub returns-then-not-is_changed : goal.returns-then-not-is_changed
returns-then-not-is_changed c =
    unchanged c.args.sides.now c.requires.sides (name_of c.args.class.now) c.requires.covered c.args.was.now c.args.now.now c.requires.was c.requires.now c.args.key.now
    c.is_changed.result c.is_changed.ensures c.if-not-is_changed.true

pub returns-then-not-declares_still : goal.returns-then-not-declares_still
returns-then-not-declares_still c =
    undeclared c.args.sides.now c.requires.sides (name_of c.args.class.now) c.requires.covered c.args.was.now c.args.now.now c.requires.was c.requires.now c.args.key.now c.in_ok-key.key
    c.declares_still.result c.in_ok-key.ensures c.declares_still.ensures c.if-not-declares_still.true

pub returns : goal.returns
returns c =
    noted_by c.args.sides.now c.requires.sides (name_of c.args.class.now) c.requires.covered c.args.was.now c.args.now.now c.requires.was c.requires.now c.in_ok-copy.field-0 c.args.key.now c.in_ok-key.key
    c.is_changed.result c.declares_still.result (c.in_ok-copy.ensures ∙ ap name_of c.class.view_is) c.in_ok-key.ensures c.is_changed.ensures c.if-not-is_changed.false c.declares_still.ensures c.if-not-declares_still.false
