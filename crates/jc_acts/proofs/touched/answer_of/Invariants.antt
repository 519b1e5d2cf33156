use Rattle.std.proofs.Common.{◌<◌, ◌-◌, Bool}
use Rattle.std.specs.Prelude.{IfSome}
use Rattle.jc_facts.specs.Names.{Bytes}
use Rattle.jc_facts.specs.world.World.{size}
use Rattle.jc_index.specs.Ids.{name_at}
use Rattle.jc_acts.specs.steps.Known.{AreKnown}
use Rattle.jc_acts.proofs.SetAbove.{IsUp}
use Rattle.jc_acts.proofs.touched.answer_of.Given as goal

abbrev pub invariant-loop : goal.invariant-loop
invariant-loop l = IfSome l.next (λ id. id < size l.table) × ((p : Bytes → Bool) → AreKnown l.table p l.known → IsUp l.table p (name_at l.table l.fn.class) (size l.table - l.counter) l.next)
