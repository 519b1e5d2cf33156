use Rattle.std.proofs.Common.{◌≡◌, take, map}
use Rattle.jc_sides.specs.SharedOf.{SharedOf}
use Rattle.jc_rules.proofs.bases.old_ids.Given as goal

abbrev pub invariant-loop-class : goal.invariant-loop-class
invariant-loop-class l = l.ids.items ≡ map (λ (b : SharedOf). b.old) (take l.class-index l.classes)
