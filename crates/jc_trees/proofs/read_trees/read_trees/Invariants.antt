use Rattle.std.proofs.Common.{◌≡◌, ◌≤◌, List, map, take}
use Rattle.std.specs.List.{All}
use Rattle.jc_base.specs.States.{TreesState}
use Rattle.jc_facts.specs.Names.{Bytes}
use Rattle.jc_trees.specs.ClassFiles.{Told}
use Rattle.jc_trees.specs.Tree.{TreeOf}
use Rattle.jc_trees.specs.TreeView.{tree_of}
use Rattle.jc_trees.specs.ClassLists.{IsReadList, kind_of}
use Rattle.jc_trees.specs.ReadTrees.{GiveAll}
use Rattle.jc_trees.specs.declared.tree.Tree.{Tree}
use Rattle.jc_trees.specs.declared.tree_read.TreeRead.{TreeRead}
use Rattle.jc_trees.proofs.read_trees.read_trees.Given as goal

pub record Reading (taken : List Tree) (all : List TreeRead) (before now : TreesState) : Type 0 where
  pub read : Told before.content (λ files. GiveAll files (map tree_of taken) all)
  pub lists : All IsReadList all
  pub kinds : map kind_of all ≡ map (λ (t : TreeOf). t.kind) (map tree_of taken)
  pub content : now.content ≡ before.content
  pub never_falls : (r : Bytes) → before.faults r ≤ now.faults r

abbrev pub invariant-loop-tree : goal.invariant-loop-tree
invariant-loop-tree g l = Reading (take l.tree-index l.wanted) l.all.items (g.T.Trees.state l.fn.trees) (g.T.Trees.state l.trees)
