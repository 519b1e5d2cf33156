-- The lines on calls, as a check reports them, where they are asked for.
use Rattle.std.specs.Prelude.{◌≤◌, List, length, Bool, true, false, Option, Some, None}
use Rattle.jc_calls.specs.Lines.{AreLines}
use Rattle.jc_call_kinds.specs.declared.call_line.CallLine.{CallLine}
use Rattle.jc_facts.specs.world.World.{World}
use Rattle.jc_releases.specs.declared.limits.TheConstants.{MAX_CALLS}

-- those of the two sides, where they are asked for, within their limit, and else none
abbrev pub AreAskedCalls : Bool → World → World → Option (List CallLine) → Type 0
AreAskedCalls false O N None = Unit {0}
AreAskedCalls true O N (Some ls) = AreLines O N ls × (length ls ≤ MAX_CALLS)
AreAskedCalls _ O N _ = ⊥
