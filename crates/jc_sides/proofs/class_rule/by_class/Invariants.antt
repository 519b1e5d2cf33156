use Rattle.std.proofs.Common.{◌≡◌, false, length, take}
use Rattle.std.specs.List.{filter_map}
use Rattle.jc_index.specs.Ids.{names}
use Rattle.jc_sides.specs.Limit.{over}
use Rattle.jc_sides.specs.Rules.{class_finding}
use Rattle.jc_sides.proofs.class_rule.by_class.Given as goal

abbrev pub invariant-loop-n : goal.invariant-loop-n
invariant-loop-n g l = (l.findings.items ≡ filter_map (class_finding g.R.ClassRule.rule l.sides) (take l.n (names l.sides.old))) × (over (length l.findings.items) l.most ≡ false)
