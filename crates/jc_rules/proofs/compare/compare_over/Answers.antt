use Rattle.jc_sides.specs.SidesOf.{AreSides}
use Rattle.jc_rules.proofs.Limited.{broken_within, kept_within, limited_within}
use Rattle.jc_rules.proofs.compare.compare_over.Goals as goal

pub returns-clause-exact : goal.returns-clause-exact
returns-clause-exact c = limited_within c.args.sides.now c.args.most c.in_ok-verdict.verdict c.in_ok-verdict.ensures.0

pub returns-clause-kept : goal.returns-clause-kept
returns-clause-kept c =
    let are : AreSides c.args.sides.now = c.requires.seats.sides in
    kept_within c.args.sides.now.old c.args.sides.now.new c.args.most (record { old_side = are.old_side; new_side = are.new_side; run = are.run }) c.in_ok-verdict.verdict (returns-clause-exact c)

pub returns-clause-broken : goal.returns-clause-broken
returns-clause-broken c =
    let are : AreSides c.args.sides.now = c.requires.seats.sides in
    broken_within c.args.sides.now.old c.args.sides.now.new c.args.most (record { old_side = are.old_side; new_side = are.new_side; run = are.run }) c.in_ok-verdict.verdict (returns-clause-exact c)
