use Rattle.std.proofs.Common.{◌∙◌, ap}
use Rattle.jc_facts.proofs.World.{found_name}
use Rattle.jc_index.specs.Ids.{name_at, id_of}
use Rattle.jc_sig.proofs.notes.named_in.Goals as goal

pub returns-clause-value : goal.returns-clause-value
returns-clause-value c =
    c.get.ensures.value ∙ ap (id_of c.args.new.now) (c.as_bytes.ensures ∙ found_name c.args.old.now (name_at c.args.old.now c.args.id) c.facts.result.now c.facts.ensures)
