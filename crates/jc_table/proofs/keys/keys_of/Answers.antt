use Rattle.jc_index.specs.Kinds.{own_of}
use Rattle.jc_index.specs.Ids.{name_at}
use Rattle.jc_table.proofs.MemberKeys.{keys_exact}
use Rattle.jc_table.proofs.keys.keys_of.Goals as goal

pub returns : goal.returns
returns c = keys_exact (own_of c.args.kind) c.args.table.now (name_at c.args.table.now c.args.class) c.in_ok-set.set c.in_ok-keys.keys.items c.in_ok-keys.ensures.ordered c.in_ok-set.ensures c.in_ok-keys.ensures.value
