use Rattle.std.proofs.Common.{◌≡◌, map, take}
use Rattle.jc_facts.specs.world.Loading.{load_fault}
use Rattle.jc_index.specs.Ids.{names}
use Rattle.jc_loading.specs.steps.Entering.{IsSettled}
use Rattle.jc_loading.specs.steps.Passing.{Orders, StandBefore}
use Rattle.jc_loading.proofs.faults.all_faults.Given as goal

abbrev pub invariant-loop-n : goal.invariant-loop-n
invariant-loop-n l = IsSettled l.index l.states × (l.faults.items ≡ map (load_fault l.index) (take l.n (names l.index))) × Orders l.index l.states l.order.items × StandBefore l.index l.n l.order.items
