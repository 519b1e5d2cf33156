use Rattle.std.proofs.Common.{sym, ◌∙◌, subst}
use Rattle.jc_facts.specs.declared.key.Key.{Key}
use Rattle.jc_facts.proofs.World.{find-name}
use Rattle.jc_index.specs.Ids.{name_at}
use Rattle.jc_index.specs.Lookups.{IsAnswer}
use Rattle.jc_field.specs.steps.Fields.{found_to}
use Rattle.jc_field.proofs.Levels.{to-all}
use Rattle.jc_field.proofs.plain.search_field.Goals as goal

pub returns : goal.returns
returns c =
    to-all c.args.table.now c.args.key.now c.args.class c.count.result c.as_bytes.result.now c.search.result c.count.ensures.count
    (c.as_bytes.ensures ∙ find-name c.args.table.now (name_at c.args.table.now c.args.class) c.facts.result.now (sym c.facts.ensures))
    (subst (λ (k : Key). IsAnswer c.args.table.now c.search.result (found_to c.args.table.now k c.count.result c.as_bytes.result.now)) c.of_key.ensures c.search.ensures)
