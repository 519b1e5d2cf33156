-- An act that is broken, as its fields have it.
use Rattle.std.specs.Prelude.{option_map}
use Rattle.jc_sides.specs.BrokenOf.{BrokenOf}
use Rattle.jc_sides.specs.declared.broken.BrokenAct.TheInside.{Inside}

-- the act, the name of the seat, and the error
abbrev pub broken_of : Inside → BrokenOf
broken_of b = record { act = b.act; seat = option_map (λ n. n.now) b.seat; error = b.error }
