use Rattle.std.proofs.Common.{◌≡◌, map, take}
use Rattle.jc_table_tests.specs.Rows.{class_of}
use Rattle.jc_table_tests.proofs.rows.classes.Given as goal

abbrev pub invariant-loop-row : goal.invariant-loop-row
invariant-loop-row l = l.classes.items ≡ map class_of (take l.row-index l.rows)
