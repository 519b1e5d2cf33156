use Rattle.std.proofs.Common.{drop}
use Rattle.jc_facts.proofs.KeySets.{Comes}
use Rattle.jc_index.specs.Kinds.{members_of}
use Rattle.jc_table.proofs.keys.add_class.Given as goal

abbrev pub invariant-loop-member : goal.invariant-loop-member
invariant-loop-member l = Comes l.keys (drop l.member-index (members_of l.fn.kind l.class)) l.initial.keys (members_of l.fn.kind l.class)
