-- What is read of a tree, whether its files are told or not.
use Rattle.std.specs.Prelude.{◌≡◌, ◌≤◌, List, [], ◌∷◌, length, IsTrue}
use Rattle.std.specs.List.{All}
use Rattle.jc_facts.specs.file.ShortNames.{HasShortNames}
use Rattle.jc_facts.specs.declared.class_facts.ClassFacts.{ClassFacts}
use Rattle.jc_facts.specs.declared.client.ClientClass.{ClientClass}
use Rattle.jc_facts.specs.client.Valid.{IsValidClient, facts_of}
use Rattle.jc_facts.specs.world.World.{differ_by_name}
use Rattle.jc_facts.specs.file.Valid.{IsValidClass}
use Rattle.jc_trees.specs.declared.limits.TheConstants.{MAX_FILES}
use Rattle.jc_trees.specs.declared.tree.TreeKind.{TreeKind}
use Rattle.jc_trees.specs.declared.tree.TreeKind.TheVariants as kinds
use Rattle.jc_trees.specs.declared.tree_read.TreeRead.{TreeRead}
use Rattle.jc_trees.specs.declared.tree_read.TreeRead.TheVariants as reads

-- what the classes of a tree are: valid, with short names, no more than the limit, and their names differ
pub record IsClassList (cs : List ClientClass) : Type 0 where
  pub valid : All IsValidClient cs
  pub short : All (λ c. HasShortNames c.facts) cs
  pub differ : IsTrue (differ_by_name (facts_of cs))
  pub few : length cs ≤ MAX_FILES

-- what their records are
pub record IsRecordList (records : List ClassFacts) : Type 0 where
  pub valid : All IsValidClass records
  pub short : All HasShortNames records
  pub differ : IsTrue (differ_by_name records)
  pub few : length records ≤ MAX_FILES

-- what is read of a tree
abbrev pub IsReadList : TreeRead → Type 0
IsReadList (reads.Library records) = IsRecordList records
IsReadList (reads.Modular m) = IsRecordList m.records
IsReadList (reads.Clients cs) = IsClassList cs

-- as what it is read
abbrev pub kind_of : TreeRead → TreeKind
kind_of (reads.Library records) = kinds.Library
kind_of (reads.Modular m) = kinds.Modular
kind_of (reads.Clients cs) = kinds.Clients

-- the first tree of all that were read was read so
abbrev pub StartsAs : TreeKind → List TreeRead → Type 0
StartsAs kind [] = ⊥
StartsAs kind (read ∷ rest) = kind_of read ≡ kind
