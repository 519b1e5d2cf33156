use Rattle.jc_rows.proofs.Numbers.{IsAddingMembers}
use Rattle.jc_rows.proofs.numbering.add_members.Given as goal

abbrev pub invariant-loop-member : goal.invariant-loop-member
invariant-loop-member l = IsAddingMembers l.fn.keys l.members l.member-index l.keys l.numbers.items
