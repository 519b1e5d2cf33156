use Rattle.jc_index.specs.Kinds.{own_of}
use Rattle.std.proofs.Common.{◌<◌, ◌-◌}
use Rattle.std.specs.Prelude.{IfSome}
use Rattle.jc_facts.specs.world.World.{size}
use Rattle.jc_index.specs.Ids.{name_at}
use Rattle.jc_table.proofs.MemberKeys.{IsAhead}
use Rattle.jc_table.proofs.keys.keys_above.Given as goal

abbrev pub invariant-loop-done : goal.invariant-loop-done
invariant-loop-done l = IfSome l.next (λ id. id < size l.table) × IsAhead (own_of l.fn.kind) l.table (name_at l.table l.fn.class) (size l.table - l.done) l.next l.keys
