use Rattle.std.proofs.Common.{◌≡◌, ◌-◌}
use Rattle.jc_facts.specs.file.Attributes.{list_at, behind}
use Rattle.jc_attr.proofs.passed.behind_some.Given as goal

abbrev pub invariant-loop : goal.invariant-loop
invariant-loop g l = behind (list_at (g.P.Passed.read l.entry) (l.count - l.counter) l.rest) ≡ behind (list_at (g.P.Passed.read l.entry) l.count l.bytes)
