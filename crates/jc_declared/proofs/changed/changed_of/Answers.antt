use Rattle.jc_acts.specs.Seats.{may_be_closed}
use Rattle.jc_sides.proofs.ByItems.{keys_more}
use Rattle.jc_declared.proofs.ChangedClasses.{if_passes}
use Rattle.jc_declared.proofs.changed.changed_of.Goals as goal

pub loop-class-preserved : goal.loop-class-preserved
loop-class-preserved c =
    keys_more (if_passes (may_be_closed c.args.sides.now)) c.args.classes.now c.loop-class.class-index c.class-item.result c.if_changed.result c.loop-class.changed.items c.push_some.new.items.items c.loop-class-test.true c.class-item.is
    c.loop-class.invariant c.if_changed.ensures c.in_ok-push_some.ensures
