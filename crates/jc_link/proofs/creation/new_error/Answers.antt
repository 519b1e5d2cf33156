use Rattle.std.proofs.Common.{sym, ◌∙◌}
use Rattle.jc_index.specs.Ids.{name_at}
use Rattle.jc_link.proofs.Gives.{new_unreached, new_uninstantiable, new_unfound, new_found}
use Rattle.jc_link.proofs.creation.new_error.Goals as goal

pub returns-in-Err : goal.returns-in-Err
returns-in-Err c = sym (new_unreached c.args.table.now (name_at c.args.table.now c.args.from) c.args.class.now c.args.descriptor.now c.in-Err.error c.in-Err.ensures)

pub returns-then-is_uninstantiable : goal.returns-then-is_uninstantiable
returns-then-is_uninstantiable c =
    sym (new_uninstantiable c.args.table.now (name_at c.args.table.now c.args.from) c.args.class.now c.args.descriptor.now c.in-Ok.id c.is_uninstantiable.result c.in-Ok.ensures c.is_uninstantiable.ensures
    c.if-is_uninstantiable.true)

pub returns-in-Ok-find_init : goal.returns-in-Ok-find_init
returns-in-Ok-find_init c =
    c.new_use.ensures
    ∙ sym (new_found c.args.table.now (name_at c.args.table.now c.args.from) c.args.class.now c.args.descriptor.now c.in-Ok.id c.is_uninstantiable.result c.in-Ok-find_init.found c.in-Ok.ensures c.is_uninstantiable.ensures
    c.if-is_uninstantiable.false c.in-Ok-find_init.ensures)

pub returns-in-Err-find_init : goal.returns-in-Err-find_init
returns-in-Err-find_init c =
    sym (new_unfound c.args.table.now (name_at c.args.table.now c.args.from) c.args.class.now c.args.descriptor.now c.in-Ok.id c.is_uninstantiable.result c.in-Err-find_init.error c.in-Ok.ensures c.is_uninstantiable.ensures
    c.if-is_uninstantiable.false c.in-Err-find_init.ensures)
