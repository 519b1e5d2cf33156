use Rattle.std.proofs.Common.{◌≡◌, drop}
use Rattle.std.specs.List.{list_any}
use Rattle.jc_exposed.proofs.exposed.is_any_wanted.Given as goal

abbrev pub invariant-loop-flag : goal.invariant-loop-flag
invariant-loop-flag l = list_any (λ w. w) (drop l.flag-index l.wanted) ≡ list_any (λ w. w) l.wanted
