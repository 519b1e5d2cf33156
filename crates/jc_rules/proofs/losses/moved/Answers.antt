use Rattle.jc_acts.proofs.SetFlags.{flags_set}
use Rattle.jc_rules.specs.steps.Losses.{is_lost, was_interface}
use Rattle.jc_rules.proofs.losses.moved.Goals as goal

pub returns : goal.returns
returns c = flags_set c.args.sides.now.old (was_interface c.args.sides.now) (is_lost c.args.sides.now) c.in_ok-flags.flags.items c.set_lost_by_any.new.flags.items c.in_ok-flags.ensures c.set_lost_by_any.ensures
