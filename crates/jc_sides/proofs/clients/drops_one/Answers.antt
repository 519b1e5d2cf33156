use Rattle.std.proofs.Common.{sym, ◌∙◌}
use Rattle.jc_promises.specs.rule.Bases.{allowed}
use Rattle.jc_sides.proofs.Permitted.{none_dropped, dropped_from}
use Rattle.jc_sides.proofs.clients.drops_one.Goals as goal

pub returns-then-eq : goal.returns-then-eq
returns-then-eq c = sym (none_dropped (allowed c.args.sides.now.old c.args.sides.now.new) c.args.after.now c.args.before.now (sym c.eq.ensures ∙ c.if-eq.true))

pub returns : goal.returns
returns c = c.leaves_one_out.ensures ∙ dropped_from (allowed c.args.sides.now.old c.args.sides.now.new) c.args.after.now c.in_ok-set.set c.in_ok-set.ensures c.args.before.now
