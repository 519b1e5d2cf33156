use Rattle.std.specs.Prelude.{ℕ, List, Option, Some}
use Rattle.jc_base.specs.declared.mem_folder.MemFolder.{MemFolder}
use Rattle.jc_base.specs.FileMap.{bytes_at}
use Rattle.jc_base.specs.Schedule.{Plan}
use Rattle.jc_base.specs.States.{FolderState}

-- the calls made on a folder, and those that fail
abbrev pub plan_of : MemFolder → Plan
plan_of f = f.schedule

-- the bytes that a folder holds at a path
abbrev pub held_by : MemFolder → List ℕ → Option (List ℕ)
held_by f = bytes_at f.files

-- how many of its calls failed
abbrev pub faults_of : MemFolder → ℕ
faults_of f = f.faults

-- both
abbrev pub state_of : MemFolder → FolderState
state_of f = record { content = Some (held_by f); faults = faults_of f }
