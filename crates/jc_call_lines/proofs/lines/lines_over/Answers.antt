use Rattle.std.proofs.Common.{option_map}
use Rattle.jc_call_lines.proofs.Limited.{within, still_within}
use Rattle.jc_call_lines.proofs.lines.lines_over.Goals as goal

pub returns-clause-exact : goal.returns-clause-exact
returns-clause-exact c = within c.args.sides.now.old c.args.sides.now.new c.args.most (option_map (λ ls. ls.items) c.in_ok-made.made) c.in_ok-made.ensures

pub returns-clause-kept : goal.returns-clause-kept
returns-clause-kept c =
    still_within c.references_stay.ensures c.args.sides.now c.requires.sides c.args.most (option_map (λ ls. ls.items) c.in_ok-made.made)
    (within c.args.sides.now.old c.args.sides.now.new c.args.most (option_map (λ ls. ls.items) c.in_ok-made.made) c.in_ok-made.ensures)
