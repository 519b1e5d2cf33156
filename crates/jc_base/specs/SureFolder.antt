use Rattle.std.specs.Prelude.{ℕ, List, Option, Some}
use Rattle.jc_base.specs.declared.sure_folder.SureFolder.{SureFolder}
use Rattle.jc_base.specs.FileMap.{bytes_at}
use Rattle.jc_base.specs.States.{FolderState}

-- the bytes that a folder holds at a path
abbrev pub held_by : SureFolder → List ℕ → Option (List ℕ)
held_by f = bytes_at f.files

-- these, and that no call failed
abbrev pub state_of : SureFolder → FolderState
state_of f = record { content = Some (held_by f); faults = 0 }
