use Rattle.std.proofs.Common.{◌-◌}
use Rattle.jc_facts.specs.world.World.{size}
use Rattle.jc_index.specs.Ids.{name_at}
use Rattle.jc_rules.proofs.ChainWalk.{HasWalked}
use Rattle.jc_rules.proofs.superclass_lost.chain_of.Given as goal

abbrev pub invariant-loop : goal.invariant-loop
invariant-loop l = HasWalked l.table (name_at l.table l.fn.id) (size l.table - l.counter) l.next l.chain
