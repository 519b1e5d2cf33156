-- What is found in a tree, on the way.
use Rattle.std.specs.Prelude.{◌≡◌, List, [], ◌∷◌, ◌++◌}
use Rattle.jc_facts.specs.file.ShortNames.{HasShortNames}
use Rattle.jc_base.specs.Causes.{Rose}
use Rattle.jc_base.specs.Outside.{FileOf, IsFileAt}
use Rattle.jc_base.specs.States.{TreesState, Change}
use Rattle.jc_base.specs.declared.trees.TreeError.{TreeError}
use Rattle.jc_base.specs.declared.trees.TreeError.TheVariants as errors
use Rattle.jc_facts.specs.declared.client.ClientClass.{ClientClass}
use Rattle.jc_facts.specs.Names.{Bytes}
use Rattle.jc_facts.specs.client.Valid.{IsValidClient}
use Rattle.jc_trees.specs.ClassFiles.{Told, FileRead, ClassRead, ModuleRead, IsReadIn, IsFileFault, IsTreeFault}
use Rattle.jc_trees.specs.Tree.{TreeOf}
use Rattle.jc_trees.specs.declared.tree.TreeName.{TreeName}
use Rattle.jc_trees.specs.declared.file_fault.FileFault.{FileFault}
use Rattle.jc_trees.specs.declared.file_fault.TreeFault.TheVariants as tree_faults
use Rattle.jc_trees.specs.declared.trees_error.TreesError.{TreesError}
use Rattle.jc_trees.specs.declared.trees_error.TreesError.TheVariants as trees_errors

-- a class that is read is valid, and its names are short
abbrev pub IsFitRead : FileRead → Type 0
IsFitRead (ClassRead c) = IsValidClient c × HasShortNames c.facts
IsFitRead (ModuleRead packages) = Unit {0}

-- the classes among what is read
abbrev pub classes_in : List FileRead → List ClientClass
classes_in [] = []
classes_in (ClassRead c ∷ rest) = c ∷ classes_in rest
classes_in (ModuleRead packages ∷ rest) = classes_in rest

-- the file at the path is read as this
pub record IsReadAt (files : List FileOf) (tree : TreeOf) (path : Bytes) (read : FileRead) : Type 0 where
  pub bytes : Bytes
  pub is_file : IsFileAt files tree.root path bytes
  pub is_read : IsReadIn tree.kind path bytes read

-- the file at the path isn't read, and this is why
pub record IsFaultAt (files : List FileOf) (tree : TreeOf) (path : Bytes) (fault : FileFault) : Type 0 where
  pub bytes : Bytes
  pub is_file : IsFileAt files tree.root path bytes
  pub is_fault : IsFileFault tree.kind path bytes fault

-- the files at the paths are read as these
abbrev pub AreReadAt : List FileOf → TreeOf → List Bytes → List FileRead → Type 0
AreReadAt files tree [] [] = Unit {0}
AreReadAt files tree (path ∷ paths) (read ∷ all) = IsReadAt files tree path read × AreReadAt files tree paths all
AreReadAt files tree [] (read ∷ all) = ⊥
AreReadAt files tree (path ∷ paths) [] = ⊥

-- of these paths this is the first whose file isn't read, and why
pub record IsFirstOf (files : List FileOf) (tree : TreeOf) (paths : List Bytes) (path : Bytes) (fault : FileFault) : Type 0 where
  pub front : List Bytes
  pub back : List Bytes
  pub all : List FileRead
  pub whole : paths ≡ front ++ path ∷ back
  pub read : AreReadAt files tree front all
  pub fault_is : IsFaultAt files tree path fault

-- why reading the files at the paths stopped
abbrev pub StopsAt : Change TreesState → TreeOf → List Bytes → TreesError → Type 0
StopsAt c tree paths (trees_errors.Unread name (tree_faults.File path fault)) = (name ≡ tree.name) × Told c.before.content (λ files. IsFirstOf files tree paths path fault)
StopsAt c tree paths (trees_errors.Unread name tree_faults.TooManyFiles) = ⊥
StopsAt c tree paths (trees_errors.Unread name tree_faults.LongPath) = ⊥
StopsAt c tree paths (trees_errors.Fault name) = (name ≡ tree.name) × Rose (c.before.faults tree.root) (c.after.faults tree.root)
StopsAt c tree paths trees_errors.Memory = Unit {0}

-- why reading the tree stopped
abbrev pub StopsIn : Change TreesState → TreeOf → TreesError → Type 0
StopsIn c tree (trees_errors.Unread name fault) = (name ≡ tree.name) × Told c.before.content (λ files. IsTreeFault files tree fault)
StopsIn c tree (trees_errors.Fault name) = (name ≡ tree.name) × Rose (c.before.faults tree.root) (c.after.faults tree.root)
StopsIn c tree trees_errors.Memory = Unit {0}

-- why the tree isn't read where a call on it failed
abbrev pub error_by : TreeName → TreeError → TreesError
error_by name errors.Fault = trees_errors.Fault name
error_by name errors.Memory = trees_errors.Memory
