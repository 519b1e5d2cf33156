use Rattle.jc_exposed.specs.Exposing.{is_wanted}
use Rattle.jc_exposed.proofs.AllNames.{all_exposing}
use Rattle.jc_exposed.proofs.exposing.exposing_rows.Goals as goal

pub returns : goal.returns
returns c = all_exposing c.args.table.now (is_wanted c.args.own.now) c.in_ok-rows.rows.items c.requires.side c.requires.bare c.in_ok-rows.ensures
