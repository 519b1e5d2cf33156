use Rattle.jc_releases.proofs.ReleasesOver.{IsOver}
use Rattle.jc_releases.proofs.releases.tables_over.Given as goal

abbrev pub invariant-loop-release : goal.invariant-loop-release
invariant-loop-release l = IsOver l.platform l.fn.releases.items l.release-iterator.rest.items l.tables.items
