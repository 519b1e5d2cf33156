use Rattle.std.proofs.Common.{refl, sym, ◌∙◌}
use Rattle.jc_acts.proofs.Roots.{rooted, root_name}
use Rattle.jc_acts.proofs.root.root_of.Goals as goal

pub unwrap-requires : goal.unwrap-requires
unwrap-requires c = rooted c.args.table.now c.requires _ refl c.get.result c.get.ensures.value

pub returns-clause-name : goal.returns-clause-name
returns-clause-name c = root_name c.args.table.now _ c.unwrap.result refl (sym c.get.ensures.value ∙ c.unwrap.ensures)
