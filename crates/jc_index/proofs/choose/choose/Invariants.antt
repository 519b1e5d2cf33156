use Rattle.std.proofs.Common.{◌-◌}
use Rattle.jc_facts.specs.world.World.{size}
use Rattle.jc_index.specs.Ids.{name_at}
use Rattle.jc_index.proofs.Walks.{IsOnWay}
use Rattle.jc_index.proofs.choose.choose.Given as goal

abbrev pub invariant-loop : goal.invariant-loop
invariant-loop g l = IsOnWay l.hierarchy (name_at l.hierarchy l.fn.class) (g.C.Choice.given l.choice l.hierarchy) (size l.hierarchy - l.counter) l.at
