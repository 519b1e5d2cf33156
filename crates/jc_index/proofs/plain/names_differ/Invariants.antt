use Rattle.std.proofs.Common.{◌≡◌, drop}
use Rattle.jc_facts.specs.world.World.{differ_by_name}
use Rattle.jc_index.proofs.plain.names_differ.Given as goal

abbrev pub invariant-loop-at : goal.invariant-loop-at
invariant-loop-at l = differ_by_name l.classes ≡ differ_by_name (drop l.at l.classes)
