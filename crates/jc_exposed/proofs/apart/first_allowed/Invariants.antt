use Rattle.std.proofs.Common.{◌≡◌, drop}
use Rattle.std.specs.List.{find as first_where}
use Rattle.jc_promises.specs.rule.Bases.{allowed}
use Rattle.jc_exposed.proofs.apart.first_allowed.Given as goal

abbrev pub invariant-loop-name : goal.invariant-loop-name
invariant-loop-name l = first_where (allowed l.sides.old l.sides.new) (drop l.name-index l.names) ≡ first_where (allowed l.sides.old l.sides.new) l.names
