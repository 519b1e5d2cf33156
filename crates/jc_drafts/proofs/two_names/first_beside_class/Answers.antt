use Rattle.std.specs.Option.{option_copied}
use Rattle.jc_drafts.proofs.TwoNames.{of_any}
use Rattle.jc_drafts.proofs.two_names.first_beside_class.Goals as goal

pub returns-in_ok-none-in-None : goal.returns-in_ok-none-in-None
returns-in_ok-none-in-None c =
    of_any c.args.sides.now c.args.names.now c.in_ok-none-in-None.none c.in_ok-none-in-None.ensures (option_copied c.first_allowed.result) c.first_allowed.ensures c.args.others.now c.in-None.is
