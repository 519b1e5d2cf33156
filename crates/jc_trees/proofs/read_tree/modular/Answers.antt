use Rattle.std.specs.Prelude.{map}
use Rattle.jc_trees.specs.TreeView.{tree_of}
use Rattle.jc_trees.specs.steps.ModularFile.{modular_read}
use Rattle.jc_trees.proofs.Libraries.{modular_are, modular_list}
use Rattle.jc_trees.proofs.read_tree.modular.Goals as goal

pub returns-in-Ok-parted-clause-read : goal.returns-in-Ok-parted-clause-read
returns-in-Ok-parted-clause-read g c = λ files told.
    modular_are files (tree_of c.args.tree.now) (map modular_read c.in-Ok.files.items) _ _ (c.in-Ok.ensures.read files told) c.in-Ok-parted.ensures.records c.in-Ok-parted.ensures.exports

pub returns-in-Ok-parted-clause-list : goal.returns-in-Ok-parted-clause-list
returns-in-Ok-parted-clause-list g c = modular_list (map modular_read c.in-Ok.files.items) _ c.in-Ok-parted.ensures.records c.in-Ok.ensures.classes
