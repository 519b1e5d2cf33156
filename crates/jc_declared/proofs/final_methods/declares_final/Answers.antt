use Rattle.std.proofs.Common.{sym, ◌∙◌}
use Rattle.jc_index.specs.Ids.{name_at}
use Rattle.jc_declared.proofs.FinalMethods.{not_there, flags_say}
use Rattle.jc_declared.proofs.final_methods.declares_final.Goals as goal

pub returns-in-None : goal.returns-in-None
returns-in-None c = not_there c.args.table.now (name_at c.args.table.now c.args.class) c.args.key.now (sym c.in-None.is ∙ c.method_flags.ensures)

pub returns-in-Some : goal.returns-in-Some
returns-in-Some c = flags_say c.args.table.now (name_at c.args.table.now c.args.class) c.args.key.now c.in-Some.flags c.are_final.result (sym c.in-Some.is ∙ c.method_flags.ensures) c.are_final.ensures
