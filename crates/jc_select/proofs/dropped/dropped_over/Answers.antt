use Rattle.std.proofs.Common.{option_map}
use Rattle.jc_sides.specs.SidesOf.{AreSides}
use Rattle.jc_select.proofs.DroppedLimits.{within, still_within}
use Rattle.jc_select.proofs.dropped.dropped_over.Goals as goal

pub returns-clause-exact : goal.returns-clause-exact
returns-clause-exact c = within c.args.sides.now.old c.args.sides.now.new c.args.most (option_map (λ ds. ds.items) c.in_ok-made.made) c.in_ok-made.ensures

pub returns-clause-kept : goal.returns-clause-kept
returns-clause-kept c =
    let are : AreSides c.args.sides.now = c.requires.seats.sides in
    still_within c.args.sides.now.old c.args.sides.now.new are.old_side are.new_side are.run c.args.most (option_map (λ ds. ds.items) c.in_ok-made.made)
    (within c.args.sides.now.old c.args.sides.now.new c.args.most (option_map (λ ds. ds.items) c.in_ok-made.made) c.in_ok-made.ensures)
