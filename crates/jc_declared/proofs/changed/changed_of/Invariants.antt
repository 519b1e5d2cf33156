use Rattle.std.proofs.Common.{◌≡◌, take}
use Rattle.std.specs.List.{filter_map}
use Rattle.jc_acts.specs.Seats.{may_be_closed}
use Rattle.jc_declared.proofs.ChangedClasses.{if_passes}
use Rattle.jc_declared.proofs.changed.changed_of.Given as goal

abbrev pub invariant-loop-class : goal.invariant-loop-class
invariant-loop-class l = l.changed.items ≡ filter_map (if_passes (may_be_closed l.sides)) (take l.class-index l.classes)
