use Rattle.std.proofs.Common.{List, [], ◌++◌, sym, subst}
use Rattle.std.specs.List.{cons_option}
use Rattle.std.proofs.lemmas.List.{append-nil, take_all}
use Rattle.jc_facts.specs.Names.{Bytes}
use Rattle.jc_select.specs.steps.Losing.{AreLosers}
use Rattle.jc_select.proofs.DroppedRows.{next_losers}
use Rattle.jc_select.proofs.dropped.add_losers.Goals as goal

pub loop-name-init : goal.loop-name-init
loop-name-init c = λ xs h. subst (λ (ys : List Bytes). AreLosers c.args.sides.now ys c.args.losers.now.items) (sym (append-nil xs)) h

pub loop-name-preserved : goal.loop-name-preserved
loop-name-preserved c = λ xs h.
    next_losers c.args.sides.now xs c.args.names.now c.loop-name.name-index c.name-item.result c.loop-name.losers.items (cons_option c.loser_named.result []) c.push_some.new.items.items
    c.loop-name-test.true c.name-item.is (c.loop-name.invariant xs h) c.loser_named.ensures c.in_ok-push_some.ensures

pub returns : goal.returns
returns c = λ xs h. subst (λ (ys : List Bytes). AreLosers c.args.sides.now (xs ++ ys) c.loop-name.losers.items) (take_all c.loop-name.name-index c.args.names.now c.loop-name-test.false) (c.loop-name.invariant xs h)
