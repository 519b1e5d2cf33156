-- Which tree of a command is the first that isn't read, and on which one a call failed.
use Rattle.std.specs.Prelude.{◌≡◌, ◌⊎◌, List, [], ◌∷◌}
use Rattle.jc_base.specs.Causes.{Rose}
use Rattle.jc_base.specs.Outside.{FileOf}
use Rattle.jc_base.specs.States.{TreesState, Change}
use Rattle.jc_trees.specs.ClassFiles.{Told, IsClean, IsTreeFault}
use Rattle.jc_trees.specs.Tree.{TreeOf}
use Rattle.jc_trees.specs.declared.file_fault.TreeFault.{TreeFault}
use Rattle.jc_trees.specs.declared.tree.TreeName.{TreeName}

-- of the trees in their order this one has the second property, and each before it has the first
abbrev pub IsFirst : (TreeOf → Type 0) → (TreeOf → Type 0) → List TreeOf → TreeName → Type 0
IsFirst Before This [] name = ⊥
IsFirst Before This (tree ∷ trees) name = ((tree.name ≡ name) × This tree) ⊎ (Before tree × IsFirst Before This trees name)

-- this is the first tree that isn't read, and why
abbrev pub IsFirstUnread : List FileOf → List TreeOf → TreeName → TreeFault → Type 0
IsFirstUnread files trees name fault = IsFirst (IsClean files) (λ tree. IsTreeFault files tree fault) trees name

-- a call on this tree failed, where no earlier tree is refused: the count of its root rose
abbrev pub HasReadFault : Change TreesState → List TreeOf → TreeName → Type 0
HasReadFault c = IsFirst (λ tree. Told c.before.content (λ files. IsClean files tree)) (λ tree. Rose (c.before.faults tree.root) (c.after.faults tree.root))
