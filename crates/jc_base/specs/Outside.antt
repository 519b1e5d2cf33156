-- What is outside: trees of files, sinks of bytes, and folders that files are put into.
use Rattle.std.specs.Prelude.{true, false, not, ◌&&◌, ◌||◌, ◌≡◌, ◌≢◌, ℕ, ◌≤◌, List, [], ◌∷◌, ◌++◌, Option, Some, None, if◌then◌else◌, Bool, length, take}
use Rattle.std.specs.List.{All, Contains}
use Rattle.std.specs.Str.{bytes_eq}

-- a file of a tree: its root, its path and its bytes
pub record FileOf : Type 0 where
  pub root : List ℕ
  pub path : List ℕ
  pub bytes : List ℕ

-- the bytes of the file at a root and a path
abbrev pub file_at : List ℕ → List ℕ → List FileOf → Option (List ℕ)
file_at root path [] = None
file_at root path (f ∷ fs) = if bytes_eq f.root root && bytes_eq f.path path then Some f.bytes else file_at root path fs

-- the files hold these bytes at the root and the path
abbrev pub IsFileAt : List FileOf → List ℕ → List ℕ → List ℕ → Type 0
IsFileAt files root path bytes = file_at root path files ≡ Some bytes

-- the files hold something at the root and the path
abbrev pub HasFile : List FileOf → List ℕ → List ℕ → Type 0
HasFile files root path = (bytes : List ℕ) × IsFileAt files root path bytes

-- the paths are those of the files of the root, in any order
pub record AreThePaths (files : List FileOf) (root : List ℕ) (paths : List (List ℕ)) : Type 0 where
  pub each : All (HasFile files root) paths
  pub whole : (path : List ℕ) → HasFile files root path → Contains paths path

-- the same, where the files are told
abbrev pub Lists : Option (List FileOf) → List ℕ → List (List ℕ) → Type 0
Lists None root paths = Unit {0}
Lists (Some files) root paths = AreThePaths files root paths

-- there is such a file, where the files are told
abbrev pub Holds : Option (List FileOf) → List ℕ → List ℕ → Type 0
Holds None root path = Unit {0}
Holds (Some files) root path = HasFile files root path

-- what is read is the file's first n bytes, or the whole file, where the files are told
abbrev pub ReadsFront : Option (List FileOf) → List ℕ → List ℕ → ℕ → List ℕ → Type 0
ReadsFront None root path n read = Unit {0}
ReadsFront (Some files) root path n read = (bytes : List ℕ) × IsFileAt files root path bytes × (read ≡ take n bytes)

-- the list has the bytes
abbrev pub has_bytes : List ℕ → List (List ℕ) → Bool
has_bytes x [] = false
has_bytes x (y ∷ ys) = bytes_eq y x || has_bytes x ys

-- no two are equal
abbrev pub are_distinct : List (List ℕ) → Bool
are_distinct [] = true
are_distinct (x ∷ xs) = not (has_bytes x xs) && are_distinct xs

-- one of the files has this root and this path
abbrev pub has_file : List ℕ → List ℕ → List FileOf → Bool
has_file root path [] = false
has_file root path (f ∷ fs) = (bytes_eq f.root root && bytes_eq f.path path) || has_file root path fs

-- no two files have one root and one path
abbrev pub are_files : List FileOf → Bool
are_files [] = true
are_files (f ∷ fs) = not (has_file f.root f.path fs) && are_files fs

-- after an Ok the bytes taken are those before and then the whole piece, where they are told
abbrev pub TakesAll : Option (List ℕ) → Option (List ℕ) → List ℕ → Type 0
TakesAll None new piece = new ≡ None
TakesAll (Some old) new piece = new ≡ Some (old ++ piece)

-- after a failure they are those before and then a prefix of the piece
abbrev pub TakesFront : Option (List ℕ) → Option (List ℕ) → List ℕ → Type 0
TakesFront None new piece = new ≡ None
TakesFront (Some old) new piece = (k : ℕ) × (k ≤ length piece) × (new ≡ Some (old ++ take k piece))

-- each path but this one holds what it held
abbrev pub KeepsAllBut : List ℕ → (List ℕ → Option (List ℕ)) → (List ℕ → Option (List ℕ)) → Type 0
KeepsAllBut path before now = (other : List ℕ) → other ≢ path → now other ≡ before other

-- each path holds what it held
abbrev pub KeepsAll : (List ℕ → Option (List ℕ)) → (List ℕ → Option (List ℕ)) → Type 0
KeepsAll before now = (path : List ℕ) → now path ≡ before path

-- the path holds exactly these bytes, where the files are told
abbrev pub HoldsAt : Option (List ℕ → Option (List ℕ)) → List ℕ → List ℕ → Type 0
HoldsAt None path bytes = Unit {0}
HoldsAt (Some held) path bytes = held path ≡ Some bytes

-- each path but this one is as before, where the files are told, and they stay told or untold
abbrev pub KeepsOtherPaths : List ℕ → Option (List ℕ → Option (List ℕ)) → Option (List ℕ → Option (List ℕ)) → Type 0
KeepsOtherPaths path None None = Unit {0}
KeepsOtherPaths path (Some before) (Some now) = KeepsAllBut path before now
KeepsOtherPaths path _ _ = ⊥
