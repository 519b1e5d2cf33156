use Rattle.std.proofs.Common.{◌≡◌, ◌++◌, map, drop}
use Rattle.jc_commands.proofs.report.push_rules.Given as goal

abbrev pub invariant-loop-collision : goal.invariant-loop-collision
invariant-loop-collision l = l.rules.items ++ map (λ c. c.rule) (drop l.collision-index l.collisions) ≡ l.fn.rules.items ++ map (λ c. c.rule) l.collisions
