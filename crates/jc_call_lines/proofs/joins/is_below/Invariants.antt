use Rattle.std.proofs.Common.{◌≡◌, drop}
use Rattle.std.specs.List.{list_any}
use Rattle.jc_facts.specs.world.Hierarchy.{in_chain}
use Rattle.jc_index.specs.Ids.{name_at}
use Rattle.jc_call_lines.proofs.joins.is_below.Given as goal

abbrev pub invariant-loop-target : goal.invariant-loop-target
invariant-loop-target l =
    list_any (λ t. in_chain l.table (name_at l.table l.id) (name_at l.table t)) (drop l.target-index l.targets)
    ≡ list_any (λ t. in_chain l.table (name_at l.table l.id) (name_at l.table t)) l.targets
