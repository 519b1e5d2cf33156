use Rattle.jc_index.specs.Kinds.{own_of}
use Rattle.std.proofs.Common.{drop}
use Rattle.jc_table.proofs.MemberKeys.{Follows}
use Rattle.jc_table.proofs.keys.add_all.Given as goal

abbrev pub invariant-loop-id : goal.invariant-loop-id
invariant-loop-id l = Follows (own_of l.fn.kind) l.table l.keys (drop l.id-index l.ids) l.initial.keys l.ids
