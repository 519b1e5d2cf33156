use Rattle.std.proofs.Common.{◌<◌, ◌-◌, not}
use Rattle.std.specs.Prelude.{IfSome}
use Rattle.jc_facts.specs.world.Hierarchy.{in_chain}
use Rattle.jc_facts.specs.world.World.{size}
use Rattle.jc_index.specs.Ids.{name_at}
use Rattle.jc_acts.proofs.Beside.{IsBeside}
use Rattle.jc_acts.proofs.SetFlags.{IsSetting}
use Rattle.jc_acts.proofs.touched.set_left.Given as goal

abbrev pub invariant-loop : goal.invariant-loop
invariant-loop l =
    IsSetting l.old (λ y. not (in_chain l.new (name_at l.new l.other) y)) l.initial.flags.items (name_at l.old l.fn.class) l.flags.items (size l.old - l.counter) l.next
    × IfSome l.beside (λ id. id < size l.new)
    × IsBeside l.new (name_at l.new l.other) l.beside
