use Rattle.std.proofs.Common.{take}
use Rattle.std.specs.List.{All}
use Rattle.jc_commands.specs.steps.History.{IsCounted}
use Rattle.jc_commands.proofs.history.count_each.Given as goal

abbrev pub invariant-loop-table : goal.invariant-loop-table
invariant-loop-table l = All IsCounted (take l.table-index l.tables)
