use Rattle.jc_trees.specs.TreeView.{tree_of}
use Rattle.jc_trees.proofs.Listings as listings
use Rattle.jc_trees.proofs.read_tree.class_paths.Goals as goal

pub returns-clause-held : goal.returns-clause-held
returns-clause-held g c = rw c.keep_class_files.ensures (listings.held_listing _ _ _ _ _ c.in_ok-paths.ensures.listed c.sort.ensures.permutation)

pub returns-clause-rising : goal.returns-clause-rising
returns-clause-rising g c = rw c.keep_class_files.ensures (listings.rising_listing _ _ _ c.in_ok-paths.ensures.once c.sort.ensures.permutation c.in-Ok.ensures.sorted)

pub returns-clause-exact : goal.returns-clause-exact
returns-clause-exact g c = λ files told.
    rw c.keep_class_files.ensures (listings.class_paths files (tree_of c.args.tree.now) _ _ (rw told at c.in_ok-paths.ensures.listed) c.in_ok-paths.ensures.once c.sort.ensures.permutation c.in-Ok.ensures.sorted)
