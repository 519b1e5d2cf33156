use Rattle.std.proofs.Common.{rules}
use Rattle.jc_trees.specs.TreeView.{tree_of}
use Rattle.jc_trees.proofs.Libraries.{gives_library, gives_clients}
use Rattle.jc_trees.proofs.read_tree.read_tree.Goals as goal

pub returns-in-Ok-clause-read : goal.returns-in-Ok-clause-read
returns-in-Ok-clause-read g c = λ files told. gives_library files (tree_of c.args.tree.now) _ _ (search rules) (search rules) (c.in-Ok.ensures.read files told)

pub returns-in-Ok-clients-clause-read : goal.returns-in-Ok-clients-clause-read
returns-in-Ok-clients-clause-read g c = λ files told. gives_clients files (tree_of c.args.tree.now) _ _ (search rules) (search rules) (c.in-Ok-clients.ensures.read files told)
