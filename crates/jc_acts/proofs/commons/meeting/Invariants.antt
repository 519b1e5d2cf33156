use Rattle.std.proofs.Common.{◌<◌}
use Rattle.jc_facts.specs.world.World.{size}
use Rattle.jc_index.specs.Ids.{name_at}
use Rattle.jc_acts.specs.steps.Commons.{IsWider}
use Rattle.jc_acts.proofs.commons.meeting.Given as goal

abbrev pub invariant-loop : goal.invariant-loop
invariant-loop l = (l.class < size l.table) × IsWider l.table (name_at l.table l.fn.one) (name_at l.table l.class)
