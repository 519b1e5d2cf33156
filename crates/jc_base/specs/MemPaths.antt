use Rattle.std.specs.Prelude.{List, ℕ, [], ◌∷◌, if◌then◌else◌}
use Rattle.std.specs.Str.{bytes_eq}
use Rattle.jc_base.specs.Outside.{FileOf}

-- the paths of the files of a root, in the order of the files
abbrev pub paths_of : List ℕ → List FileOf → List (List ℕ)
paths_of root [] = []
paths_of root (f ∷ fs) = if bytes_eq f.root root then f.path ∷ paths_of root fs else paths_of root fs
