use Rattle.std.proofs.Common.{rules}
use Rattle.std.specs.Ordering.{is_lt}
use Rattle.std.proofs.lemmas.List.Sorted.{IsPartitionPoint-from_clause}
use Rattle.jc_facts.specs.Exactly.{name_order}
use Rattle.jc_index.proofs.NameSets.{parted}
use Rattle.jc_index.proofs.name_set.NameSet.rank.Goals as goal

pub returns-clause-parts : goal.returns-clause-parts
returns-clause-parts c =
    rw (← c.self.view_is, ← c.as_slice.ensures.value)
    (IsPartitionPoint-from_clause (λ x. is_lt (name_order x c.args.bytes.now)) _ _ c.partition_point.ensures.partitioned
    (parted c.args.bytes.now _ (rw c.as_slice.ensures.value c.self.invariant)) (λ a r q k. search rules))
