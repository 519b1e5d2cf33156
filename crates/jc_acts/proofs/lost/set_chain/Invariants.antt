use Rattle.std.proofs.Common.{◌-◌, true}
use Rattle.jc_facts.specs.world.World.{size}
use Rattle.jc_index.specs.Ids.{name_at}
use Rattle.jc_acts.proofs.SetFlags.{IsSetting}
use Rattle.jc_acts.proofs.lost.set_chain.Given as goal

abbrev pub invariant-loop : goal.invariant-loop
invariant-loop l = IsSetting l.table (λ y. true) l.initial.flags.items (name_at l.table l.fn.class) l.flags.items (size l.table - l.counter) l.next
