-- What the trees of a command are read as, and why they aren't.
use Rattle.std.specs.Prelude.{◌≡◌, List}
use Rattle.std.specs.List.{AllZip}
use Rattle.jc_base.specs.Outside.{FileOf}
use Rattle.jc_base.specs.States.{TreesState, Change}
use Rattle.jc_trees.specs.ClassFiles.{Told, AreClasses, AreRecords, AreModular}
use Rattle.jc_trees.specs.FirstTree.{IsFirstUnread, HasReadFault}
use Rattle.jc_trees.specs.Tree.{TreeOf}
use Rattle.jc_trees.specs.declared.tree.TreeKind.TheVariants as kinds
use Rattle.jc_trees.specs.declared.tree_read.TreeRead.{TreeRead}
use Rattle.jc_trees.specs.declared.tree_read.TreeRead.TheVariants as reads
use Rattle.jc_trees.specs.declared.trees_error.TreesError.{TreesError}
use Rattle.jc_trees.specs.declared.trees_error.TreesError.TheVariants as trees_errors

-- the tree is read as this: a library as its records, one that may be a named module with what it exports too, and clients as classes with the
-- items of their code
abbrev pub Gives : List FileOf → TreeOf → TreeRead → Type 0
Gives files tree (reads.Library records) = (tree.kind ≡ kinds.Library) × AreRecords files tree records
Gives files tree (reads.Modular m) = (tree.kind ≡ kinds.Modular) × AreModular files tree m.records m.exports
Gives files tree (reads.Clients cs) = (tree.kind ≡ kinds.Clients) × AreClasses files tree cs

-- the trees are read, and these are what they are read as, one after the other
abbrev pub GiveAll : List FileOf → List TreeOf → List TreeRead → Type 0
GiveAll files trees all = AllZip (Gives files) trees all

-- why reading the trees stopped: at the first tree that isn't read, at a failed call, or for lack of memory
abbrev pub StopsAmong : Change TreesState → List TreeOf → TreesError → Type 0
StopsAmong c trees (trees_errors.Unread name fault) = Told c.before.content (λ files. IsFirstUnread files trees name fault)
StopsAmong c trees (trees_errors.Fault name) = HasReadFault c trees name
StopsAmong c trees trees_errors.Memory = Unit {0}
