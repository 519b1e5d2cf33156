use Rattle.std.proofs.Common.{◌≡◌, ◌++◌, map, drop}
use Rattle.jc_commands.proofs.report.rules_of_findings.Given as goal

abbrev pub invariant-loop-finding : goal.invariant-loop-finding
invariant-loop-finding l = l.rules.items ++ map (λ f. f.rule) (drop l.finding-index l.findings) ≡ map (λ f. f.rule) l.findings
