use Rattle.std.proofs.Common.{◌≡◌, ◌≤◌, List, take}
use Rattle.std.specs.Prelude.{map}
use Rattle.std.specs.List.{All}
use Rattle.jc_base.specs.States.{TreesState}
use Rattle.jc_facts.specs.Names.{Bytes}
use Rattle.jc_trees.specs.ClassFiles.{Told, FileRead, path_read}
use Rattle.jc_trees.specs.Tree.{TreeOf}
use Rattle.jc_trees.specs.TreeView.{tree_of}
use Rattle.jc_trees.specs.steps.ReadTree.{IsFitRead, AreReadAt}
use Rattle.jc_trees.proofs.read_tree.read_all.Given as goal

pub record Reading (tree : TreeOf) (taken : List Bytes) (all : List FileRead) (before now : TreesState) : Type 0 where
  pub read : Told before.content (λ files. AreReadAt files tree taken all)
  pub named : map path_read all ≡ taken
  pub fit : All IsFitRead all
  pub content : now.content ≡ before.content
  pub never_falls : (r : Bytes) → before.faults r ≤ now.faults r

abbrev pub invariant-loop-path : goal.invariant-loop-path
invariant-loop-path g l =
    Reading (tree_of l.tree) (take l.path-index l.paths) (map g.C.FromFile.says l.all.items) (g.T.Trees.state l.fn.trees) (g.T.Trees.state l.trees)
