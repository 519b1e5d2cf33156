use Rattle.jc_select.proofs.ChangedKeys.{nothing_own}
use Rattle.jc_select.proofs.walks.add_own.Goals as goal

pub returns : goal.returns
returns c = nothing_own c.args.table.now c.args.class c.facts.result.now c.args.keys.now.items c.add_methods.new.keys.items c.facts.ensures c.in_ok-add_methods.ensures
