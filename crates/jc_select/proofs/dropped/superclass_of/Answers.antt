use Rattle.std.proofs.Common.{[], sym, subst}
use Rattle.std.specs.List.{cons_option}
use Rattle.jc_facts.specs.world.Search.{supers_of}
use Rattle.jc_select.specs.steps.Losing.{AreLosers}
use Rattle.jc_select.proofs.DroppedRows.{no_losers}
use Rattle.jc_select.proofs.dropped.superclass_of.Goals as goal

pub returns-in-None : goal.returns-in-None
returns-in-None c = subst (λ o. AreLosers c.args.sides.now (supers_of o []) []) (sym c.in-None.is) (no_losers c.args.sides.now)

pub returns-in-Some : goal.returns-in-Some
returns-in-Some c = subst (λ o. AreLosers c.args.sides.now (supers_of o []) (cons_option c.loser_named.result [])) (sym c.in-Some.is) c.loser_named.ensures
