use Rattle.jc_releases.proofs.ReleasesOver.{few_both}
use Rattle.jc_releases.proofs.releases.table_in.Goals as goal

pub over-requires-clause-few : goal.over-requires-clause-few
over-requires-clause-few c = few_both _ _ c.requires.platform.few c.requires.records.few
