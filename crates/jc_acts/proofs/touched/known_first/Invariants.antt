use Rattle.std.proofs.Common.{◌≡◌, Bool, length, map, take}
use Rattle.jc_facts.specs.Names.{Bytes}
use Rattle.jc_index.specs.Ids.{names}
use Rattle.jc_acts.specs.Touched.{AreFlags}
use Rattle.jc_acts.specs.steps.Known.{known_first}
use Rattle.jc_acts.proofs.touched.known_first.Given as goal

abbrev pub invariant-loop-n : goal.invariant-loop-n
invariant-loop-n l = (length l.known.items ≡ l.n) × ((p : Bytes → Bool) → AreFlags l.table p l.flags → l.known.items ≡ map (known_first l.table p) (take l.n (names l.table)))
