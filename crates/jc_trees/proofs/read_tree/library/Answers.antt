use Rattle.std.proofs.Common.{subst}
use Rattle.jc_trees.specs.ClassFiles.{AreFiles}
use Rattle.jc_trees.specs.TreeView.{tree_of}
use Rattle.jc_trees.proofs.Libraries.{library_list, read_records}
use Rattle.jc_trees.proofs.read_tree.library.Goals as goal

pub returns-in-Ok-clause-read : goal.returns-in-Ok-clause-read
returns-in-Ok-clause-read g c = λ files told. subst (AreFiles files (tree_of c.args.tree.now)) (read_records c.in-Ok.records.items) (c.in-Ok.ensures.read files told)

pub returns-in-Ok-clause-list : goal.returns-in-Ok-clause-list
returns-in-Ok-clause-list g c = library_list _ c.in-Ok.ensures.classes
