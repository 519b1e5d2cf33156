use Rattle.std.proofs.Common.{◌<◌, ◌-◌}
use Rattle.std.specs.Prelude.{IfSome}
use Rattle.jc_facts.specs.world.World.{size}
use Rattle.jc_index.specs.Ids.{name_at}
use Rattle.jc_exposed.specs.Exposing.{is_wanted, opens_of}
use Rattle.jc_exposed.proofs.AboveFinds.{IsAhead}
use Rattle.jc_exposed.proofs.exposing.found_above.Given as goal

abbrev pub invariant-loop-done : goal.invariant-loop-done
invariant-loop-done l =
    IfSome l.next (λ id. id < size l.table)
    × IsAhead l.table (is_wanted l.own) (opens_of l.table (name_at l.table l.fn.class)) (name_at l.table l.fn.class) (size l.table - l.done) l.next l.members.items
