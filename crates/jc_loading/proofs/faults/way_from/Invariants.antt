use Rattle.std.proofs.Common.{◌≡◌, take, None}
use Rattle.std.specs.List.{AllByRecursion}
use Rattle.jc_facts.specs.Options.{first_some}
use Rattle.jc_facts.specs.world.Search.{supers}
use Rattle.jc_facts.specs.world.Loading.{load_fault}
use Rattle.jc_loading.specs.steps.Passing.{IsPassed}
use Rattle.jc_loading.proofs.faults.way_from.Given as goal

abbrev pub invariant-loop-above : goal.invariant-loop-above
invariant-loop-above l = (first_some (load_fault l.index) (take l.above (supers l.facts)) ≡ None) × AllByRecursion (IsPassed l.index l.states) (take l.above (supers l.facts))
