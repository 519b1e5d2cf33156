use Rattle.std.proofs.Common.{◌≡◌, map, take}
use Rattle.jc_table_tests.specs.Rows.{member_of}
use Rattle.jc_table_tests.proofs.rows.members.Given as goal

abbrev pub invariant-loop-declared : goal.invariant-loop-declared
invariant-loop-declared l = l.members.items ≡ map member_of (take l.declared-index l.list)
