use Rattle.std.proofs.Common.{◌∙◌}
use Rattle.jc_declared.proofs.OwnFlags.{own_field}
use Rattle.jc_declared.proofs.own.field_flags.Goals as goal

pub returns : goal.returns
returns c = c.flags_in.ensures ∙ own_field c.args.table.now c.count-classes.ensures.side c.args.class c.requires.class c.args.key.now c.requires.loads c.find_field.result c.find_field.ensures
