use Rattle.std.proofs.Common.{◌≡◌, ◌++◌, drop}
use Rattle.jc_report.specs.LinkText.{lines_of_outcomes}
use Rattle.jc_report.proofs.link_text.lines.Given as goal

abbrev pub invariant-loop-outcome : goal.invariant-loop-outcome
invariant-loop-outcome l = l.text.items ++ lines_of_outcomes (drop l.outcome-index l.outcomes) ≡ lines_of_outcomes l.outcomes
