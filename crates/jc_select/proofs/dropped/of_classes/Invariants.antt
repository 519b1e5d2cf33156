use Rattle.std.proofs.Common.{◌≡◌, false, length, take}
use Rattle.jc_dropped.specs.Dropped.{IsDropped, dropped_order}
use Rattle.jc_facts.specs.declared.dropped.Dropped.{Dropped}
use Rattle.jc_facts.specs.Exactly.{HasExactly}
use Rattle.jc_facts.proofs.Exactly.{OfNames}
use Rattle.jc_sides.specs.Limit.{over}
use Rattle.jc_index.specs.Ids.{names}
use Rattle.jc_select.proofs.dropped.of_classes.Given as goal

abbrev pub invariant-loop-n : goal.invariant-loop-n
invariant-loop-n l = record {
  exact : HasExactly dropped_order (OfNames (λ (d : Dropped). d.«class») (IsDropped l.sides.old l.sides.new) (take l.n (names l.sides.old))) l.dropped.items;
  within : over (length l.dropped.items) l.most ≡ false;
}
