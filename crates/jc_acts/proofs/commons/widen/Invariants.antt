use Rattle.std.proofs.Common.{◌-◌}
use Rattle.jc_facts.specs.world.World.{size}
use Rattle.jc_index.specs.Ids.{name_at}
use Rattle.jc_acts.proofs.Covering.{IsOnWay}
use Rattle.jc_acts.proofs.commons.widen.Given as goal

abbrev pub invariant-loop : goal.invariant-loop
invariant-loop l = IsOnWay l.old l.new (name_at l.old l.fn.before) l.initial.common.items l.common.items (size l.old - l.counter) l.next l.wide
