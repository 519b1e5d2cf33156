use Rattle.std.proofs.Common.{◌+◌, ◌-◌, ◌/◌, ℕ, sym, arith}
use Rattle.jc_index.proofs.seals.find.Goals as goal

pub returns-then-number-clause-among : goal.returns-then-number-clause-among
returns-then-number-clause-among c =
    let m : ℕ = c.loop-low.low + (c.loop-low.high - c.loop-low.low) / 2 in
    (m, omega arith, sym c.index-seals-middle.is)
