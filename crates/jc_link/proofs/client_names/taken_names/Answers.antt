use Rattle.jc_link.proofs.Taken.{are_taken, grown}
use Rattle.jc_link.proofs.client_names.taken_names.Goals as goal

pub returns : goal.returns
returns c =
    are_taken c.args.platform.now c.args.release.now c.args.of.now _
    (grown _ _ _ _ _ _ c.new.ensures.items c.in_ok-add_classes.ensures.declared c.in_ok-add_classes-2.ensures.declared c.in_ok-declared.ensures)
    (grown _ _ _ _ _ _ c.new-2.ensures.items c.in_ok-add_classes.ensures.supers c.in_ok-add_classes-2.ensures.supers c.in_ok-supers.ensures)
    (grown _ _ _ _ _ _ c.new-3.ensures.items c.in_ok-add_classes.ensures.packages c.in_ok-add_classes-2.ensures.packages c.in_ok-packages.ensures)
