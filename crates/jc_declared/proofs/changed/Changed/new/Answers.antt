use Rattle.std.proofs.Common.{sym, subst}
use Rattle.std.specs.List.{All}
use Rattle.jc_acts.specs.Seats.{may_be_closed}
use Rattle.jc_promises.specs.rule.Bases.{is_steady, is_base_class, is_base_interface}
use Rattle.jc_sides.specs.SharedOf.{AreThose, IsShared}
use Rattle.jc_declared.proofs.ChangedClasses.{those_too}
use Rattle.jc_declared.proofs.changed.Changed.new.Goals as goal

pub changed_of-requires-clause-classes : goal.changed_of-requires-clause-classes
changed_of-requires-clause-classes c = subst (All (IsShared c.args.sides.now)) (sym c.as_slice.ensures.value) c.in_ok-all_steady.ensures.shared

pub changed_of-requires-2-clause-classes : goal.changed_of-requires-2-clause-classes
changed_of-requires-2-clause-classes c = (c.bases.ensures c.args.sides.now c.requires).shared

pub changed_of-requires-3-clause-classes : goal.changed_of-requires-3-clause-classes
changed_of-requires-3-clause-classes c = subst (All (IsShared c.args.sides.now)) (sym c.as_slice-2.ensures.value) c.in_ok-all_interfaces.ensures.shared

pub returns : goal.returns
returns c =
    let s = c.args.sides.now in
    record {
      steady =
          those_too (may_be_closed s) s (is_steady s.old s.new) c.as_slice.result.now c.in_ok-steady.steady.items (subst (AreThose (is_steady s.old s.new) s) (sym c.as_slice.ensures.value) c.in_ok-all_steady.ensures)
          c.in_ok-steady.ensures;
      classes = those_too (may_be_closed s) s (is_base_class s.old s.new) c.bases.result.now c.in_ok-classes.classes.items (c.bases.ensures s c.requires) c.in_ok-classes.ensures;
      interfaces =
          those_too (may_be_closed s) s (is_base_interface s.old s.new) c.as_slice-2.result.now c.in_ok-interfaces.interfaces.items (subst (AreThose (is_base_interface s.old s.new) s) (sym c.as_slice-2.ensures.value) c.in_ok-all_interfaces.ensures)
          c.in_ok-interfaces.ensures;
    }
