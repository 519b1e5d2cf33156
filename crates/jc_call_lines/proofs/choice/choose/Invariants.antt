use Rattle.std.proofs.Common.{◌-◌}
use Rattle.jc_facts.specs.world.World.{size}
use Rattle.jc_index.specs.Ids.{name_at}
use Rattle.jc_index.proofs.Walks.{IsOnWay}
use Rattle.jc_call_lines.proofs.choice.choose.Given as goal

abbrev pub invariant-loop : goal.invariant-loop
invariant-loop g l = IsOnWay l.table (name_at l.table l.fn.class) (g.C.Choice.given l.choice l.table) (size l.table - l.counter) l.at
