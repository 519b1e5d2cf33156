-- What is known of the trees of files, of a sink of bytes and of a folder, before a call and after it.
use Rattle.std.specs.Prelude.{ℕ, List, Option}
use Rattle.jc_base.specs.Outside.{FileOf}

-- the files of all roots, where they are told, and how many calls on each root have failed
pub record TreesState : Type 0 where
  pub content : Option (List FileOf)
  pub faults : List ℕ → ℕ

-- the bytes taken, where they are told, and how many calls have failed
pub record SinkState : Type 0 where
  pub taken : Option (List ℕ)
  pub faults : ℕ

-- the bytes at each path, where they are told, and how many calls have failed
pub record FolderState : Type 0 where
  pub content : Option (List ℕ → Option (List ℕ))
  pub faults : ℕ

-- how it stood before a call, and how it stands after it
pub record Change (S : Type 0) : Type 0 where
  pub before : S
  pub after : S

-- what a call changed of the state of an object that it was lent
abbrev pub change : {A S : Type 0} → (A → S) → A → A → Change S
change state old new = record { before = state old; after = state new }
