use Rattle.std.proofs.Common.{◌≡◌, ◌-◌, length, drop}
use Rattle.std.specs.Prelude.{is_some}
use Rattle.std.specs.Option.{option_copied}
use Rattle.jc_facts.specs.world.World.{class_named}
use Rattle.jc_facts.specs.ByName.{least}
use Rattle.jc_index.proofs.overlap.least_known.Given as goal

abbrev pub invariant-loop-done : goal.invariant-loop-done
invariant-loop-done l = option_copied l.least ≡ least (λ x. is_some (class_named l.platform x)) (drop (length l.release - l.done) l.release)
