-- What was put to a sink and into the folder.
use Rattle.std.specs.Prelude.{◌≡◌}
use Rattle.jc_base.specs.Causes.{Rose}
use Rattle.jc_base.specs.Outside.{TakesAll, TakesFront}
use Rattle.jc_base.specs.States.{SinkState, FolderState, Change}
use Rattle.jc_facts.specs.Names.{Bytes}

-- nothing was put
abbrev pub IsQuiet : Change SinkState → Type 0
IsQuiet sink = sink.after.taken ≡ sink.before.taken

-- the bytes were put whole
abbrev pub PutsAll : Change SinkState → Bytes → Type 0
PutsAll sink = TakesAll sink.before.taken sink.after.taken

-- a prefix of the bytes was put
abbrev pub PutsFront : Change SinkState → Bytes → Type 0
PutsFront sink = TakesFront sink.before.taken sink.after.taken

-- a put on the sink failed
abbrev pub HasPutFault : Change SinkState → Type 0
HasPutFault sink = Rose sink.before.faults sink.after.faults

-- the folder and its count are as they were
abbrev pub IsUntouched : Change FolderState → Type 0
IsUntouched folder = folder.after ≡ folder.before

-- a put into the folder failed
abbrev pub HasFolderFault : Change FolderState → Type 0
HasFolderFault folder = Rose folder.before.faults folder.after.faults
