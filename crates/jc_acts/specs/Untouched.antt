-- What holds of a class where neither it nor any above it changed or left the chain of a seat.
use Rattle.std.specs.Prelude.{◌≡◌, true, false, None}
use Rattle.jc_facts.specs.Names.{Bytes}
use Rattle.jc_promises.specs.rule.Bases.{is_steady}
use Rattle.jc_facts.specs.world.Loading.{load_fault}
use Rattle.jc_worlds.specs.Agreement.{LooksTheSame}
use Rattle.jc_sides.specs.SidesOf.{SidesOf, AreSides}
use Rattle.jc_acts.specs.ClosedActs.{HasNoneClosed}
use Rattle.jc_acts.specs.Seats.{may_be_closed}

-- lookups from it find the same on both sides, if it loads on the new one too
abbrev pub UntouchedLookAlike : Type 0
UntouchedLookAlike = (s : SidesOf) → AreSides s → (x : Bytes) → may_be_closed s x ≡ false → load_fault s.new x ≡ None → LooksTheSame s.old s.new x

-- no act on its members is closed, if it is steady
abbrev pub UntouchedStayOpen : Type 0
UntouchedStayOpen = (s : SidesOf) → AreSides s → (x : Bytes) → may_be_closed s x ≡ false → is_steady s.old s.new x ≡ true → HasNoneClosed s x
