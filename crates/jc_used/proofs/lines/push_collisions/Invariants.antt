use Rattle.std.proofs.Common.{◌≡◌, ◌++◌, map}
use Rattle.jc_used.specs.Lines.{line_of, as_finding}
use Rattle.jc_used.proofs.lines.push_collisions.Given as goal

abbrev pub invariant-loop-collision : goal.invariant-loop-collision
invariant-loop-collision l = l.lines.items ++ map (line_of l.side) (map as_finding l.collision-iterator.rest.items) ≡ l.fn.lines.items ++ map (line_of l.side) (map as_finding l.fn.collisions.items)
