-- Acts on members that are closed to a seat now.
use Rattle.std.specs.Prelude.{◌≡◌, List, Option, None, Some}
use Rattle.jc_facts.specs.declared.act.Act.{Act}
use Rattle.jc_facts.specs.declared.finding.Finding.{Finding}
use Rattle.jc_facts.specs.declared.key.Key.{Key}
use Rattle.jc_promises.specs.rule.Findings.{Subject, report, first_act}
use Rattle.jc_facts.specs.Names.{Bytes}
use Rattle.jc_sides.specs.SidesOf.{SidesOf}
use Rattle.jc_acts.specs.declared.closed_act.ClosedAct.{ClosedAct}

-- what a rule on the subject reports of the act
abbrev pub reported : Subject → Option ClosedAct → Option Finding
reported on None = None
reported on (Some c) = report on c.act (Some c.seat.now) c.error

-- it is the first of these acts on the key of the class x that was open to a seat and isn't any more, with the first such seat and
-- the error there: each rule on the class and the key reports just this
abbrev pub IsFirstClosed : SidesOf → Bytes → Key → List Act → Option ClosedAct → Type 0
IsFirstClosed s x k acts closed = (on : Subject) → on.«class» ≡ x → first_act s.old s.new on k acts ≡ reported on closed

-- no act on a member of the class x is closed to a seat that could do it
abbrev pub HasNoneClosed : SidesOf → Bytes → Type 0
HasNoneClosed s x = (k : Key) (acts : List Act) → IsFirstClosed s x k acts None
