use Rattle.std.proofs.Common.{◌≡◌, false, length, take}
use Rattle.jc_facts.specs.Orders.{finding_order}
use Rattle.jc_facts.specs.Exactly.{HasExactly}
use Rattle.jc_index.specs.Ids.{names}
use Rattle.jc_facts.proofs.Exactly.{OfNames}
use Rattle.jc_sides.specs.Limit.{over}
use Rattle.jc_sides.specs.Rules.{IsFinding}
use Rattle.jc_rules.proofs.superclass_lost.superclass_lost.Given as goal

abbrev pub invariant-loop-n : goal.invariant-loop-n
invariant-loop-n l = HasExactly finding_order (OfNames (λ f. f.«class») (IsFinding 4 l.sides) (take l.n (names l.sides.old))) l.findings.items × (over (length l.findings.items) l.most ≡ false)
