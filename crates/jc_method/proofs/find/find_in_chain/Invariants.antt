use Rattle.std.proofs.Common.{◌≡◌, ◌<◌, ◌-◌}
use Rattle.std.specs.Prelude.{IfSome}
use Rattle.jc_facts.specs.world.World.{size}
use Rattle.jc_facts.specs.world.Hierarchy.{chain}
use Rattle.jc_facts.specs.world.Lookup.{first_declared}
use Rattle.jc_index.specs.Ids.{name_at}
use Rattle.jc_method.proofs.Chains.{first_from}
use Rattle.jc_method.proofs.find.find_in_chain.Given as goal

abbrev pub invariant-loop-done : goal.invariant-loop-done
invariant-loop-done l =
    IfSome l.next (λ id. id < size l.table)
    × (first_declared l.key (chain l.table (name_at l.table l.fn.class)) ≡ first_from l.table l.key (size l.table - l.done) l.next)
