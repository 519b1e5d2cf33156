use Rattle.std.proofs.Common.{sym, ap, ◌∙◌}
use Rattle.jc_index.specs.Ids.{id_of}
use Rattle.jc_drafts.proofs.ClassesByName.{record_is, no_record}
use Rattle.jc_drafts.proofs.classes.record_of.Goals as goal

pub returns-in-Some : goal.returns-in-Some
returns-in-Some c = record_is c.args.table.now c.args.name.now c.in-Some.class c.facts.result.now (sym c.in-Some.is ∙ c.get.ensures.value ∙ ap (id_of c.args.table.now) c.as_bytes.ensures) c.facts.ensures

pub returns-in-None : goal.returns-in-None
returns-in-None c = no_record c.args.table.now c.args.name.now (sym c.in-None.is ∙ c.get.ensures.value ∙ ap (id_of c.args.table.now) c.as_bytes.ensures)
