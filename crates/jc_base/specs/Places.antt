-- Where the bytes of a name are.
use Rattle.std.specs.Prelude.{◌≤◌, ℕ, List, take}
use Rattle.std.specs.Rc.{rc_slice_items}
use Rattle.jc_base.specs.declared.name.TheConstants.{MOST_INSIDE}
use Rattle.jc_base.specs.declared.name.Place.{Place}
use Rattle.jc_base.specs.declared.name.Place.TheVariants.{Inside, Shared}

-- the bytes that lie at the place
abbrev pub bytes_at : Place → List ℕ
bytes_at (Inside len room) = take len room
bytes_at (Shared bytes) = rc_slice_items bytes

-- there is room for as many bytes as are said to be in it
abbrev pub Fits : Place → Type 0
Fits (Inside len room) = len ≤ MOST_INSIDE
Fits (Shared bytes) = Unit {0}
