-- The interfaces that classes drop, as a check reports them, where they are asked for.
use Rattle.std.specs.Prelude.{◌≤◌, List, length, Bool, true, false, Option, Some, None}
use Rattle.jc_facts.specs.declared.dropped.Dropped.{Dropped}
use Rattle.jc_dropped.specs.Dropped.{AreDropped}
use Rattle.jc_facts.specs.world.World.{World}
use Rattle.jc_releases.specs.declared.limits.TheConstants.{MAX_DROPPED}

-- those of the two sides, where they are asked for, within their limit, and else none
abbrev pub AreAskedDropped : Bool → World → World → Option (List Dropped) → Type 0
AreAskedDropped false O N None = Unit {0}
AreAskedDropped true O N (Some ds) = AreDropped O N ds × (length ds ≤ MAX_DROPPED)
AreAskedDropped _ O N _ = ⊥
