use Rattle.std.proofs.Common.{◌-◌}
use Rattle.jc_facts.specs.world.World.{size}
use Rattle.jc_index.specs.Ids.{name_at}
use Rattle.jc_sides.proofs.FinalKeys.{HasPassed}
use Rattle.jc_sides.proofs.members.final_keys.Given as goal

abbrev pub invariant-loop-done : goal.invariant-loop-done
invariant-loop-done l = HasPassed l.table (name_at l.table l.fn.class) (size l.table - l.done) l.next l.keys.items
