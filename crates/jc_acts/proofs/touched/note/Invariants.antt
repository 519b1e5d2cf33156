use Rattle.std.proofs.Common.{◌≡◌, ◌<◌, Bool, length}
use Rattle.std.specs.Prelude.{IfSome}
use Rattle.jc_facts.specs.Names.{Bytes}
use Rattle.jc_facts.specs.world.World.{size}
use Rattle.jc_index.specs.Ids.{name_at}
use Rattle.jc_acts.specs.Touched.{passes_above}
use Rattle.jc_acts.specs.steps.Known.{AreKnown}
use Rattle.jc_acts.proofs.SetAbove.{IsNoting}
use Rattle.jc_acts.proofs.touched.note.Given as goal

abbrev pub invariant-loop : goal.invariant-loop
invariant-loop l =
    IfSome l.next (λ id. id < size l.table)
    × (length l.known.items ≡ size l.table)
    × ((p : Bytes → Bool) → AreKnown l.table p l.initial.known.items → l.answer ≡ passes_above l.table p (name_at l.table l.fn.class) → IsNoting l.table p l.answer l.known.items l.next)
