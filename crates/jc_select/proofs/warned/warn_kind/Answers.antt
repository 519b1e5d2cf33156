use Rattle.std.proofs.Common.{not, sym, ap, ◌∙◌}
use Rattle.std.proofs.lemmas.Result.{IfOk-weaker}
use Rattle.jc_desc.specs.Names.{is_initializer_name}
use Rattle.jc_sides.specs.SharedOf.{name_of}
use Rattle.jc_select.proofs.KindsWarned.{not_method, is_changed}
use Rattle.jc_select.proofs.warned.warn_kind.Goals as goal

pub returns-then-is_initializer : goal.returns-then-is_initializer
returns-then-is_initializer c =
    not_method c.args.sides.now (name_of c.args.class.now) c.args.key.now
    (ap not (sym (c.is_initializer.ensures ∙ ap is_initializer_name c.as_bytes.ensures) ∙ c.if-is_initializer.true))

pub returns : goal.returns
returns c =
    IfOk-weaker c.changed.result _ _
    (λ kind h. is_changed c.args.sides.now (name_of c.args.class.now) c.args.key.now kind
    (ap not (sym (c.is_initializer.ensures ∙ ap is_initializer_name c.as_bytes.ensures) ∙ c.if-is_initializer.false)) c.requires.covered h)
    c.changed.ensures
