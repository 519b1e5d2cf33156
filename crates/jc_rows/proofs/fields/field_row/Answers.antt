use Rattle.std.proofs.Common.{sym}
use Rattle.jc_facts.specs.world.World.{World}
use Rattle.jc_index.specs.Ids.{name_at}
use Rattle.jc_rows.proofs.FieldLaw.{law}
use Rattle.jc_rows.proofs.fields.field_row.Goals as goal

pub returns : goal.returns
returns c =
    let W : World = c.args.index.now in
    law W c.args.rows.now (name_at W c.args.class) c.facts.result.now (sym c.facts.ensures) c.requires.loads c.requires.above c.in_ok-own.own.items c.in_ok-row.row.items c.in_ok-own.ensures c.in_ok-row.ensures
