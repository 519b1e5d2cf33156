use Rattle.std.proofs.Common.{sym, ◌∙◌, ap}
use Rattle.jc_index.specs.Ids.{id_of, name_at}
use Rattle.jc_acts.proofs.Losses.{above_there, above_absent}
use Rattle.jc_acts.proofs.chains.has_above.Goals as goal

pub returns-in-Some : goal.returns-in-Some
returns-in-Some c =
    c.has_super.ensures ∙ above_there c.args.table.now (name_at c.args.table.now c.args.class) c.args.name.now c.in-Some.above (ap (id_of c.args.table.now) (sym c.as_bytes.ensures) ∙ sym c.get.ensures.value ∙ c.in-Some.is)

pub returns-in-None : goal.returns-in-None
returns-in-None c =
    above_absent c.args.table.now (name_at c.args.table.now c.args.class) c.args.name.now (ap (id_of c.args.table.now) (sym c.as_bytes.ensures) ∙ sym c.get.ensures.value ∙ c.in-None.is)
