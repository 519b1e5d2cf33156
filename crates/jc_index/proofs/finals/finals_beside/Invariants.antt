use Rattle.jc_facts.specs.world.World.{find_class}
use Rattle.jc_index.specs.Ids.{name_at}
use Rattle.jc_index.proofs.FinalKeys.{AreOfFirst}
use Rattle.jc_index.proofs.finals.finals_beside.Given as goal

abbrev pub invariant-loop-n : goal.invariant-loop-n
invariant-loop-n l = AreOfFirst (λ m. find_class l.index (name_at l.index m)) l.marks l.n l.keys.items
