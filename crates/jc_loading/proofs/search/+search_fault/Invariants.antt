use Rattle.std.proofs.Common.{◌≡◌, ◌-◌, take, None}
use Rattle.jc_facts.specs.Options.{first_some}
use Rattle.jc_facts.specs.world.Search.{supers}
use Rattle.jc_facts.specs.world.Loading.{fault_at}
use Rattle.jc_loading.proofs.search.+search_fault.Given as goal

abbrev pub decreases-search_fault : goal.decreases-search_fault
decreases-search_fault l = l.levels

abbrev pub invariant-loop-at : goal.invariant-loop-at
invariant-loop-at l = first_some (fault_at l.index (l.fn.levels - 1)) (take l.at (supers l.class)) ≡ None
