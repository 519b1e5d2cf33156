use Rattle.std.proofs.Common.{◌≡◌, ◌-◌, ◌/◌, ◌++◌, length}
use Rattle.jc_code.specs.steps.Kept.{kept_of}
use Rattle.jc_code.proofs.bootstrap_rows.kept.Given as goal

abbrev pub invariant-loop : goal.invariant-loop
invariant-loop l = l.all.items ++ kept_of l.pool (length l.arguments / 2 - l.counter) l.rest ≡ kept_of l.pool (length l.arguments / 2) l.arguments
