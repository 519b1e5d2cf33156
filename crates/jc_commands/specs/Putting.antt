-- What is put, and the status that tells of it.
use Rattle.std.specs.Prelude.{◌≡◌, ◌≢◌, ◌⊎◌, ℕ, List, Option, Some}
use Rattle.jc_base.specs.States.{SinkState, FolderState, Change}
use Rattle.jc_facts.specs.Names.{Bytes}
use Rattle.jc_commands.specs.Outputs.{PutsAll, PutsFront, HasPutFault, HasFolderFault, IsQuiet}
use Rattle.jc_shown.specs.Witness.{PutFile, PutsFiles, PutsSome}
use Rattle.jc_releases.specs.declared.status.TheConstants.{WRITE_FAULT, NO_MEMORY}

-- the bytes were put whole, and the status is the one that was due, or a prefix of them
pub record IsPutWith (bytes : Bytes) (due : ℕ) (sink : Change SinkState) (status : ℕ) : Type 0 where
  pub known : (status ≡ due) ⊎ (status ≡ WRITE_FAULT) ⊎ (status ≡ NO_MEMORY)
  pub whole : status ≡ due → status ≢ NO_MEMORY → PutsAll sink bytes
  pub cut : (status ≡ WRITE_FAULT) ⊎ (status ≡ NO_MEMORY) → PutsFront sink bytes
  pub cause : status ≡ WRITE_FAULT → HasPutFault sink

-- the witness files were put whole, and then the bytes
pub record IsPutAfter (puts : List PutFile) (folder : Change FolderState) (bytes : Bytes) (due : ℕ) (sink : Change SinkState) (status : ℕ) : Type 0 where
  pub witnesses : PutsFiles folder puts
  pub put : IsPutWith bytes due sink status

-- there is a path for witness files, and some of them were put, and none of the bytes
pub record IsCutBefore (dir : Option Bytes) (puts : List PutFile) (folder : Change FolderState) (sink : Change SinkState) (status : ℕ) : Type 0 where
  pub asked_for : (path : Bytes) × (dir ≡ Some path)
  pub known : (status ≡ WRITE_FAULT) ⊎ (status ≡ NO_MEMORY)
  pub witnesses : PutsSome folder puts
  pub output : IsQuiet sink
  pub cause : status ≡ WRITE_FAULT → HasFolderFault folder
