use Rattle.std.proofs.Common.{sym, ap, ◌∙◌}
use Rattle.jc_facts.specs.Options.{and_then}
use Rattle.jc_rows.specs.Rows.{entry}
use Rattle.jc_table.proofs.by_number.find_at.Goals as goal

pub returns-in-Some : goal.returns-in-Some
unfolding and_then
returns-in-Some c = c.find.ensures ∙ sym (ap (and_then (entry c.args.row.now)) c.in-Some.is)

pub returns-in-None : goal.returns-in-None
unfolding and_then
returns-in-None c = sym (ap (and_then (entry c.args.row.now)) c.in-None.is)
