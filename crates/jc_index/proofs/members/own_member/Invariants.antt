use Rattle.std.proofs.Common.{◌≡◌, drop}
use Rattle.std.specs.List.{find}
use Rattle.jc_facts.specs.Names.{is_key}
use Rattle.jc_index.specs.Kinds.{members_of}
use Rattle.jc_index.proofs.members.own_member.Given as goal

abbrev pub invariant-loop-member : goal.invariant-loop-member
invariant-loop-member l = find (is_key l.key) (members_of l.fn.kind l.class) ≡ find (is_key l.key) (drop l.member-index (members_of l.fn.kind l.class))
