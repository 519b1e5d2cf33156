use Rattle.std.proofs.Common.{sym, ◌∙◌}
use Rattle.jc_index.specs.Ids.{name_at}
use Rattle.jc_link.proofs.Gives.{init_unreached, init_unfound, init_found}
use Rattle.jc_link.proofs.creation.init_error.Goals as goal

pub returns-in-Err : goal.returns-in-Err
returns-in-Err c = sym (init_unreached c.args.table.now (name_at c.args.table.now c.args.from) c.args.class.now c.args.descriptor.now c.in-Err.error c.in-Err.ensures)

pub returns-in-Ok-find_init : goal.returns-in-Ok-find_init
returns-in-Ok-find_init c =
    c.init_use.ensures
    ∙ sym (init_found c.args.table.now (name_at c.args.table.now c.args.from) c.args.class.now c.args.descriptor.now c.in-Ok.id c.in-Ok-find_init.found c.in-Ok.ensures c.in-Ok-find_init.ensures)

pub returns-in-Err-find_init : goal.returns-in-Err-find_init
returns-in-Err-find_init c =
    sym (init_unfound c.args.table.now (name_at c.args.table.now c.args.from) c.args.class.now c.args.descriptor.now c.in-Ok.id c.in-Err-find_init.error c.in-Ok.ensures c.in-Err-find_init.ensures)
