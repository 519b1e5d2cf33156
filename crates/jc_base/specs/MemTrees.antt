use Rattle.std.specs.Prelude.{ℕ, List, Some}
use Rattle.jc_base.specs.declared.mem_trees.MemTrees.{MemTrees}
use Rattle.jc_base.specs.MemFile.{files_of}
use Rattle.jc_base.specs.Outside.{FileOf}
use Rattle.jc_base.specs.RootFaults.{count_at}
use Rattle.jc_base.specs.Schedule.{Plan}
use Rattle.jc_base.specs.States.{TreesState}

-- the calls made on trees, and those that fail
abbrev pub plan_of : MemTrees → Plan
plan_of t = t.schedule

-- the files of trees
abbrev pub held_by : MemTrees → List FileOf
held_by t = files_of t.files.items

-- how many calls on the root failed
abbrev pub faults_at : MemTrees → List ℕ → ℕ
faults_at t root = count_at t.failed root

-- both
abbrev pub state_of : MemTrees → TreesState
state_of t = record { content = Some (held_by t); faults = faults_at t }
