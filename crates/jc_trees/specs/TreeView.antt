-- Trees, apart from where they lie in memory.
use Rattle.jc_trees.specs.declared.tree.Tree.{Tree}
use Rattle.jc_trees.specs.Tree.{TreeOf}

abbrev pub tree_of : Tree → TreeOf
tree_of t = record { name = t.name; root = t.root.now; kind = t.kind }
