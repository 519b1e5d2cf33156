use Rattle.std.proofs.Common.{◌≡◌, Bool, length, map, take}
use Rattle.jc_facts.specs.Names.{Bytes}
use Rattle.jc_facts.specs.world.World.{size}
use Rattle.jc_index.specs.Ids.{names}
use Rattle.jc_acts.specs.Touched.{passes_above, AreFlags}
use Rattle.jc_acts.specs.steps.Known.{AreKnown}
use Rattle.jc_acts.proofs.touched.with_those_below.Given as goal

abbrev pub invariant-loop-n : goal.invariant-loop-n
invariant-loop-n l =
    (length l.known.items ≡ size l.table)
    × ((p : Bytes → Bool) → AreFlags l.table p l.flags → AreKnown l.table p l.known.items × (l.below.items ≡ map (passes_above l.table p) (take l.n (names l.table))))
