use Rattle.std.proofs.Common.{take}
use Rattle.jc_exposed.specs.Rows.{AreAdded}
use Rattle.jc_exposed.proofs.rows.put_all.Given as goal

abbrev pub invariant-loop-member : goal.invariant-loop-member
invariant-loop-member l = AreAdded l.table (take l.member-index l.members) l.initial.rows.items l.rows.items
