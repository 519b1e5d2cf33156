use Rattle.std.proofs.Common.{◌-◌}
use Rattle.jc_sides.specs.SharedOf.{name_of}
use Rattle.jc_select.proofs.ChainKeys.{IsOnWay}
use Rattle.jc_select.proofs.asked.chain_keys.Given as goal

abbrev pub invariant-loop-done : goal.invariant-loop-done
invariant-loop-done l = IsOnWay l.sides (name_of l.«class») (l.old_levels - l.done) (l.new_levels - l.done) l.before l.now l.keys.items
