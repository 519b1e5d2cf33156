use Rattle.std.proofs.Common.{ap, sym, ◌∙◌, not}
use Rattle.jc_desc.specs.Names.{is_initializer_name}
use Rattle.jc_sides.specs.SharedOf.{name_of}
use Rattle.jc_sides.specs.Rules.{on_key}
use Rattle.jc_declared.proofs.ChangedClasses.{steady}
use Rattle.jc_declared.proofs.MethodClosed.{initializer, closed}
use Rattle.jc_declared.proofs.method_closed.MethodClosedItemRule.on_key.Goals as goal

pub returns-then-is_initializer : goal.returns-then-is_initializer
returns-then-is_initializer c =
    initializer c.args.sides.now (name_of c.args.class.now) c.args.key.now (ap not (sym (c.is_initializer.ensures ∙ ap is_initializer_name c.as_bytes.ensures) ∙ c.if-is_initializer.true))

pub method_closed-requires-clause-key : goal.method_closed-requires-clause-key
method_closed-requires-clause-key c = ap not (sym (c.is_initializer.ensures ∙ ap is_initializer_name c.as_bytes.ensures) ∙ c.if-is_initializer.false)

pub returns : goal.returns
returns c =
    closed c.args.sides.now (name_of c.args.class.now) c.args.key.now c.method_closed.result c.broken.result (ap not (sym (c.is_initializer.ensures ∙ ap is_initializer_name c.as_bytes.ensures) ∙ c.if-is_initializer.false)) (steady c.args.sides.now (name_of c.args.class.now) c.requires.covered)
    c.method_closed.ensures (c.broken.ensures (on_key 8 (name_of c.args.class.now) c.args.key.now))

pub method_closed-requires-clause-steady : goal.method_closed-requires-clause-steady
method_closed-requires-clause-steady c = steady c.args.sides.now (name_of c.args.class.now) c.requires.covered
