use Rattle.std.proofs.Common.{sym, ◌∙◌}
use Rattle.jc_index.specs.Ids.{name_at}
use Rattle.jc_link.proofs.Gives.{access_unreached, access_unfound, access_used}
use Rattle.jc_link.proofs.item.access_error.Goals as goal

pub returns-in-Err : goal.returns-in-Err
returns-in-Err c =
    sym (access_unreached c.args.table.now (name_at c.args.table.now c.args.from) c.args.class.now c.args.act c.args.key.now c.args.receiver.now c.args.place c.array_error.result c.in-Err.error c.array_error.ensures c.in-Err.ensures)

pub returns-in-Ok-look_up : goal.returns-in-Ok-look_up
returns-in-Ok-look_up c =
    c.use_error.ensures
    ∙ sym (access_used c.args.table.now (name_at c.args.table.now c.args.from) c.args.class.now c.args.act c.args.key.now c.args.receiver.now c.args.place c.array_error.result c.in-Ok.id c.in-Ok-look_up.found
    c.array_error.ensures c.in-Ok.ensures c.in-Ok-look_up.ensures)

pub returns-in-Err-look_up : goal.returns-in-Err-look_up
returns-in-Err-look_up c =
    sym (access_unfound c.args.table.now (name_at c.args.table.now c.args.from) c.args.class.now c.args.act c.args.key.now c.args.receiver.now c.args.place c.array_error.result c.in-Err-look_up.error c.in-Ok.id
    c.array_error.ensures c.in-Ok.ensures c.in-Err-look_up.ensures)
