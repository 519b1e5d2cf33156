use Rattle.std.proofs.Common.{None, subst}
use Rattle.jc_dropped.specs.Dropped.{AreDropped, IsDropped, dropped_order}
use Rattle.jc_sides.proofs.Limits.{always_some, some_within}
use Rattle.jc_sides.specs.SidesOf.{SidesOf}
use Rattle.jc_select.proofs.DroppedLimits.{still}
use Rattle.jc_select.proofs.dropped.dropped.Goals as goal

pub unwrap-requires : goal.unwrap-requires
unwrap-requires c = always_some dropped_order (IsDropped c.in_ok-sides.sides.old c.in_ok-sides.sides.new) (λ ds. ds.items) c.in_ok-made.made c.in_ok-made.ensures

pub returns-clause-exact : goal.returns-clause-exact
returns-clause-exact c =
    subst (λ (s : SidesOf). AreDropped s.old s.new c.unwrap.result.items) c.in_ok-sides.ensures
    (some_within dropped_order (IsDropped c.in_ok-sides.sides.old c.in_ok-sides.sides.new) None (λ ds. ds.items) c.in_ok-made.made c.unwrap.result c.unwrap.ensures c.in_ok-made.ensures).0

pub returns-clause-kept : goal.returns-clause-kept
returns-clause-kept c =
    still c.args.old.now c.args.new.now c.count-old.ensures.side c.count-new.ensures.side c.requires c.unwrap.result.items
    (subst (λ (s : SidesOf). AreDropped s.old s.new c.unwrap.result.items) c.in_ok-sides.ensures
    (some_within dropped_order (IsDropped c.in_ok-sides.sides.old c.in_ok-sides.sides.new) None (λ ds. ds.items) c.in_ok-made.made c.unwrap.result c.unwrap.ensures c.in_ok-made.ensures).0)
