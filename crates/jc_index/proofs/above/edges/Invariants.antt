use Rattle.std.proofs.Common.{◌≡◌, take, map}
use Rattle.jc_facts.specs.world.World.{find_class}
use Rattle.jc_index.specs.Ids.{names}
use Rattle.jc_index.specs.steps.Named.{named_by}
use Rattle.jc_index.proofs.above.edges.Given as goal

abbrev pub invariant-loop-n : goal.invariant-loop-n
invariant-loop-n l = l.edges.items ≡ map (λ x. named_by l.index (find_class l.index x)) (take l.n (names l.index))
