use Rattle.std.proofs.Common.{sym, ◌∙◌, ap, subst}
use Rattle.std.specs.Prelude.{Ok, Err}
use Rattle.jc_facts.specs.world.Types.{is_array_text}
use Rattle.jc_index.specs.Ids.{name_at}
use Rattle.jc_link.specs.steps.ItemSteps.{IsNamed}
use Rattle.jc_link.proofs.Named.{array_unnamed, array_named, class_unnamed, class_named}
use Rattle.jc_link.proofs.class_step.named_class.Goals as goal

pub returns-in-Some : goal.returns-in-Some
returns-in-Some c = array_unnamed c.args.table.now (name_at c.args.table.now c.args.from) c.args.text.now c.args.array c.in-Some.error c.in-Some.ensures

pub returns-in-None : goal.returns-in-None
returns-in-None c =
    array_named c.args.table.now (name_at c.args.table.now c.args.from) c.args.text.now c.args.array (ap is_array_text (sym c.as_bytes.ensures) ∙ sym c.is_array.ensures ∙ c.if-is_array.true) c.in-None.ensures

pub returns-in-Ok : goal.returns-in-Ok
returns-in-Ok c =
    class_named c.args.table.now (name_at c.args.table.now c.args.from) c.args.text.now c.args.array c.in-Ok.class (ap is_array_text (sym c.as_bytes.ensures) ∙ sym c.is_array.ensures ∙ c.if-is_array.false)
    (subst (λ z. IsNamed c.args.table.now (name_at c.args.table.now c.args.from) z (Ok c.in-Ok.class)) c.as_bytes-2.ensures c.in-Ok.ensures)

pub returns-in-Err : goal.returns-in-Err
returns-in-Err c =
    class_unnamed c.args.table.now (name_at c.args.table.now c.args.from) c.args.text.now c.args.array c.in-Err.error (ap is_array_text (sym c.as_bytes.ensures) ∙ sym c.is_array.ensures ∙ c.if-is_array.false)
    (subst (λ z. IsNamed c.args.table.now (name_at c.args.table.now c.args.from) z (Err c.in-Err.error)) c.as_bytes-2.ensures c.in-Err.ensures)
