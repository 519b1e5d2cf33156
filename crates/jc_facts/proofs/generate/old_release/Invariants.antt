use Rattle.std.proofs.Common.{◌≡◌, map}
use Rattle.std.specs.List.{range_with_len}
use Rattle.jc_facts.specs.Generated.{old_class}
use Rattle.jc_facts.proofs.generate.old_release.Given as goal

abbrev pub invariant-loop-number : goal.invariant-loop-number
invariant-loop-number l = l.release.items ≡ map old_class (range_with_len 0 l.number)
