use Rattle.jc_releases.proofs.ReleasesOver.{IsNumbered}
use Rattle.jc_releases.proofs.releases.numbered_releases.Given as goal

abbrev pub invariant-loop-read : goal.invariant-loop-read
invariant-loop-read l = IsNumbered l.fn.all.items l.read-iterator.rest.items l.number l.releases.items
