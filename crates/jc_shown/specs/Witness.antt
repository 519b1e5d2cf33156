-- The witness files of a check: where each stands, and what a run leaves of them in the folder.
--     witness_puts dir O N v      the files of the verdict's causes, in the order in which they are put
--     PutsFiles folder files      the folder holds just these files beside what it held
--     PutsSome folder files      it holds some of them, from the first on, and perhaps anything at the path of the next
use Rattle.std.specs.Prelude.{◌≡◌, ◌≢◌, ℕ, ◌+◌, suc, List, [], ◌∷◌, ◌++◌, map, length, take, drop, codes, Option, Some, None}
use Rattle.std.specs.Fmt.{decimal}
use Rattle.std.specs.List.{All}
use Rattle.jc_base.specs.States.{FolderState, Change}
use Rattle.jc_facts.specs.declared.verdict.Cause.{Cause}
use Rattle.jc_facts.specs.declared.verdict.Cause.TheVariants as cause
use Rattle.jc_facts.specs.declared.verdict.Verdict.{Verdict}
use Rattle.jc_facts.specs.Names.{Bytes}
use Rattle.jc_facts.specs.world.World.{World}
use Rattle.jc_witness.specs.declared.witness.WitnessFile.{WitnessFile}
use Rattle.jc_witness.specs.Witnesses.{witness_files}

-- ---- the files

-- a file that is put: its path, and its bytes
pub record PutFile : Type 0 where
  pub path : Bytes
  pub bytes : Bytes

-- a number in six digits, with leading zeros; one that has more digits is as it is
abbrev pub six_digits : ℕ → Bytes
six_digits n = drop (length (decimal n)) (codes "000000") ++ decimal n

-- DIR/NNNNNN/NAME.class
abbrev pub witness_path : Bytes → ℕ → Bytes → Bytes
witness_path dir n name = dir ++ codes "/" ++ six_digits n ++ codes "/" ++ name ++ codes ".class"

-- a file of the witness of this number
abbrev pub put_file : Bytes → ℕ → WitnessFile → PutFile
put_file dir n f = record { path = witness_path dir n f.«class»; bytes = f.bytes }

-- the files of the cause of this number
abbrev pub files_of_cause : Bytes → World → World → ℕ → Cause → List PutFile
files_of_cause dir O N n e = map (put_file dir n) (witness_files O N e)

-- those of causes whose numbers go on from this one
abbrev pub files_from : Bytes → World → World → ℕ → List Cause → List PutFile
files_from dir O N n [] = []
files_from dir O N n (e ∷ es) = files_of_cause dir O N n e ++ files_from dir O N (n + 1) es

-- the findings of a verdict, and then its collisions, as they are numbered
abbrev pub causes_of : Verdict → List Cause
causes_of v = map cause.Finding v.findings ++ map cause.Collision v.collisions

-- the files of all causes of a verdict
abbrev pub witness_puts : Bytes → World → World → Verdict → List PutFile
witness_puts dir O N v = files_from dir O N 1 (causes_of v)

-- ---- what a folder holds of them

-- the first k of the files stand, the path of the next one may hold anything, and every other path holds what it held
pub record HoldsFirst (k : ℕ) (files : List PutFile) (before now : Bytes → Option Bytes) : Type 0 where
  pub whole : All (λ f. now f.path ≡ Some f.bytes) (take k files)
  pub others : (path : Bytes) → All (λ f. f.path ≢ path) (take (suc k) files) → now path ≡ before path

-- the same where the files of the folder are told, and they stay told or untold
abbrev pub HoldsFirstOf : ℕ → List PutFile → Option (Bytes → Option Bytes) → Option (Bytes → Option Bytes) → Type 0
HoldsFirstOf k files None None = Unit {0}
HoldsFirstOf k files (Some before) (Some now) = HoldsFirst k files before now
HoldsFirstOf k files _ _ = ⊥

-- the first k of the files were put
abbrev pub PutsFirst : ℕ → List PutFile → Change FolderState → Type 0
PutsFirst k files folder = HoldsFirstOf k files folder.before.content folder.after.content

-- all of the files were put, and every other path is as before
abbrev pub PutsFiles : Change FolderState → List PutFile → Type 0
PutsFiles folder files = PutsFirst (length files) files folder

-- so many of them were put, and every other path but that of the next one is as before
abbrev pub PutsSome : Change FolderState → List PutFile → Type 0
PutsSome folder files = (k : ℕ) × PutsFirst k files folder
