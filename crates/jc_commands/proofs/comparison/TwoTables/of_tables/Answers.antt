use Rattle.jc_commands.proofs.Compared.{sides_can_write}
use Rattle.jc_commands.proofs.comparison.TwoTables.of_tables.Goals as goal

pub returns-clause-can : goal.returns-clause-can
returns-clause-can c =
    sides_can_write c.args.old c.args.new c.mention_count-old_names.result c.mention_count-new_names.result c.count-old_size.ensures.side c.count-new_size.ensures.side c.requires.run
    c.mention_count-old_names.ensures.count c.mention_count-old_names.ensures.small c.mention_count-new_names.ensures.count c.mention_count-new_names.ensures.small c.requires.short_old c.requires.short_new
