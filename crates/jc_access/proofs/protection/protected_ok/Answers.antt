use Rattle.std.proofs.Common.{◌∙◌, ap}
use Rattle.jc_facts.specs.world.Assignment.{is_assignable}
use Rattle.jc_index.specs.Ids.{name_at}
use Rattle.jc_access.proofs.Spoken.{passes_unasked, passes_asked}
use Rattle.jc_access.proofs.protection.protected_ok.Goals as goal

pub returns-then-not-is_asked : goal.returns-then-not-is_asked
returns-then-not-is_asked c = λ m f.
    passes_unasked c.args.table.now (name_at c.args.table.now c.args.current) (name_at c.args.table.now c.args.named) c.args.found m c.args.receiver.now f c.is_asked.result c.is_asked.ensures c.if-not-is_asked.true

pub returns : goal.returns
returns c = λ m f.
    passes_asked c.args.table.now (name_at c.args.table.now c.args.current) (name_at c.args.table.now c.args.named) c.args.found m c.args.receiver.now f c.is_asked.result c.is_asked.ensures c.assignable.result c.if-not-is_asked.false
    (c.assignable.ensures ∙ ap (is_assignable c.args.table.now c.args.receiver.now) c.name_of.ensures)
