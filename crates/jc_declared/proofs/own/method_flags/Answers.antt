use Rattle.std.proofs.Common.{sym, ◌∙◌}
use Rattle.jc_index.specs.Ids.{name_at}
use Rattle.jc_method.proofs.Rows.{in_row}
use Rattle.jc_declared.proofs.OwnFlags.{own_method}
use Rattle.jc_declared.proofs.own.method_flags.Goals as goal

pub find_at-requires : goal.find_at-requires
find_at-requires c = c.in-Some.ensures.row.rises

pub returns-in-Some : goal.returns-in-Some
returns-in-Some c =
    c.flags_in.ensures
    ∙ own_method c.args.table.now c.count-classes.ensures.side c.args.class c.requires.class c.args.key.now c.requires.loads c.find_at.result
    (in_row c.args.table.now c.count-classes.ensures.side (name_at c.args.table.now c.args.class) c.requires.loads (sym c.in-Some.ensures.made) c.in-Some.row.now c.in-Some.ensures.row c.args.key.now c.find_at.result
    (c.args.number, c.requires.number, c.find_at.ensures))
