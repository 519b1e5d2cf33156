-- What a folder holds once files are put into it, one after the other.
use Rattle.std.specs.Prelude.{◌≡◌, ◌≢◌, List, [], ◌∷◌, ◌++◌, Option, Some, None, if◌then◌else◌}
use Rattle.jc_base.specs.States.{FolderState, Change}
use Rattle.jc_facts.specs.Names.{Bytes, same}
use Rattle.jc_shown.specs.Witness.{PutFile}

-- what a path holds that held this, once the files are put
abbrev pub held_after : Bytes → Option Bytes → List PutFile → Option Bytes
held_after path held [] = held
held_after path held (f ∷ fs) = held_after path (if same f.path path then Some f.bytes else held) fs

-- it isn't the path of the first of the files
abbrev pub IsNotFirst : List PutFile → Bytes → Type 0
IsNotFirst [] path = Unit {0}
IsNotFirst (f ∷ fs) path = f.path ≢ path

-- the files were put, and perhaps something at the path of the next one, where the files of the folder are told
abbrev pub HoldsAfter : List PutFile → List PutFile → Option (Bytes → Option Bytes) → Option (Bytes → Option Bytes) → Type 0
HoldsAfter files next None None = Unit {0}
HoldsAfter files next (Some before) (Some now) = (path : Bytes) → IsNotFirst next path → now path ≡ held_after path (before path) files
HoldsAfter files next _ _ = ⊥

-- the files were put, and nothing else
abbrev pub IsPutWhole : List PutFile → Change FolderState → Type 0
IsPutWhole files folder = HoldsAfter files [] folder.before.content folder.after.content

-- a prefix of the files was put, and perhaps something at the path of the next one
pub record IsPutInPart (files : List PutFile) (folder : Change FolderState) : Type 0 where
  pub front : List PutFile
  pub rest : List PutFile
  pub whole : files ≡ front ++ rest
  pub held : HoldsAfter front rest folder.before.content folder.after.content
