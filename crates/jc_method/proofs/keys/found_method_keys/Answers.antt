use Rattle.std.proofs.lemmas.Result.{IfOk-weaker}
use Rattle.jc_index.specs.Ids.{name_at}
use Rattle.jc_method.proofs.Rows.{found_above}
use Rattle.jc_method.proofs.keys.found_method_keys.Goals as goal

pub returns : goal.returns
returns c = IfOk-weaker _ _ _ (λ keys. found_above c.args.table.now c.count-classes.ensures.side (name_at c.args.table.now c.args.class) c.requires.loads keys.items) c.method_keys.ensures
