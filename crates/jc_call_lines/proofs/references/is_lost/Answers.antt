use Rattle.std.proofs.Common.{◌≡◌, not, sym, ◌∙◌, ap, true}
use Rattle.jc_desc.specs.Names.{is_initializer_name}
use Rattle.jc_promises.specs.rule.Bases.{is_key_of_method}
use Rattle.jc_sides.specs.SharedOf.{name_of}
use Rattle.jc_call_lines.proofs.LostReferences.{no_method, no_handle, untold_is}
use Rattle.jc_call_lines.proofs.references.is_lost.Goals as goal

pub returns-then-is_initializer : goal.returns-then-is_initializer
returns-then-is_initializer c =
    no_method c.args.sides.now (name_of c.args.class.now) c.args.key.now
    (ap not (sym (c.is_initializer.ensures ∙ ap is_initializer_name c.as_bytes.ensures) ∙ c.if-is_initializer.true))

pub returns-then-not-is_handle_lost : goal.returns-then-not-is_handle_lost
returns-then-not-is_handle_lost c =
    no_handle c.args.sides.now (name_of c.args.class.now) c.args.key.now c.is_handle_lost.result c.is_handle_lost.ensures c.if-not-is_handle_lost.true

pub returns : goal.returns
returns c =
    let method : is_key_of_method c.args.key.now ≡ true = ap not (sym (c.is_initializer.ensures ∙ ap is_initializer_name c.as_bytes.ensures) ∙ c.if-is_initializer.false) in
    untold_is c.args.sides.now (name_of c.args.class.now) c.args.key.now method c.requires.steady c.is_handle_lost.result c.is_none.result c.is_handle_lost.ensures c.if-not-is_handle_lost.false
    c.method_closed-closed.result c.method_closed-closed.ensures c.is_none.ensures
