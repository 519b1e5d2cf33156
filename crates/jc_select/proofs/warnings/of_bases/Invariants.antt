use Rattle.std.proofs.Common.{◌≡◌, false, length, take, map}
use Rattle.jc_facts.specs.declared.warning.Warning.{Warning}
use Rattle.jc_facts.specs.Exactly.{HasExactly}
use Rattle.jc_promises.specs.rule.Warnings.{WarningStands, warning_order}
use Rattle.jc_facts.proofs.Exactly.{OfNames}
use Rattle.jc_sides.specs.Limit.{over}
use Rattle.jc_sides.specs.SharedOf.{name_of}
use Rattle.jc_select.proofs.warnings.of_bases.Given as goal

abbrev pub invariant-loop-class : goal.invariant-loop-class
invariant-loop-class l =
    HasExactly warning_order (OfNames (λ (w : Warning). w.«class») (WarningStands l.sides.old l.sides.new) (take l.class-index (map name_of l.bases))) l.warnings.items
    × (over (length l.warnings.items) l.most ≡ false)
