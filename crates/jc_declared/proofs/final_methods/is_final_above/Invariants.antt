use Rattle.std.proofs.Common.{◌≡◌, ◌<◌, ◌-◌}
use Rattle.std.specs.Prelude.{IfSome}
use Rattle.jc_facts.specs.world.World.{size}
use Rattle.jc_facts.specs.world.Inheritance.{is_final_in_chain}
use Rattle.jc_index.specs.Ids.{name_at}
use Rattle.jc_index.proofs.Walking.{declared_from}
use Rattle.jc_declared.proofs.FinalMethods.{Loads}
use Rattle.jc_declared.proofs.final_methods.is_final_above.Given as goal

abbrev pub invariant-loop-done : goal.invariant-loop-done
invariant-loop-done l =
    IfSome l.next (λ id. id < size l.table) × Loads l.table l.next
    × (is_final_in_chain l.table (name_at l.table l.fn.class) l.key ≡ declared_from l.table l.key (size l.table - l.done) l.next)
