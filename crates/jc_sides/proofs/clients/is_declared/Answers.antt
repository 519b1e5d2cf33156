use Rattle.std.proofs.Common.{ap, ◌∙◌, is_some}
use Rattle.jc_index.specs.Ids.{id_of}
use Rattle.jc_index.proofs.Numbers.{id-find}
use Rattle.jc_sides.proofs.clients.is_declared.Goals as goal

pub returns : goal.returns
returns c = c.is_some.ensures ∙ ap is_some (c.get.ensures.value ∙ ap (id_of c.args.table.now) c.as_bytes.ensures) ∙ id-find c.args.table.now c.args.name.now
