use Rattle.std.proofs.Common.{◌≡◌, ◌<◌, ◌-◌}
use Rattle.std.specs.Prelude.{IfSome}
use Rattle.std.specs.List.{list_any}
use Rattle.jc_facts.specs.world.Hierarchy.{chain}
use Rattle.jc_facts.specs.world.World.{size}
use Rattle.jc_index.specs.Ids.{name_at}
use Rattle.jc_call_lines.proofs.JoinWalk.{any_from, sooner}
use Rattle.jc_call_lines.proofs.joins.meets_sooner.Given as goal

abbrev pub invariant-loop : goal.invariant-loop
invariant-loop l =
    IfSome l.next (λ id. id < size l.table)
    × (list_any (sooner l.table (name_at l.table l.other) (name_at l.table l.target)) (chain l.table (name_at l.table l.fn.«class»)) ≡ any_from l.table (name_at l.table l.other) (name_at l.table l.target) (size l.table - l.counter) l.next)
