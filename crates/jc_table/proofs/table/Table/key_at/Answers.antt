use Rattle.std.proofs.Common.{List, slice_get, ◌∙◌, ap}
use Rattle.jc_facts.specs.declared.key.Key.{Key}
use Rattle.jc_table.proofs.Rows.{keys_are}
use Rattle.jc_table.proofs.table.Table.key_at.Goals as goal

pub returns : goal.returns
returns c = c.at.ensures ∙ ap (λ (ks : List Key). slice_get ks c.args.number) (keys_are c.self.inside.hierarchy c.args.self.now c.self.inside.rows.keys c.self.invariant.rows.keys c.self.view_is)
