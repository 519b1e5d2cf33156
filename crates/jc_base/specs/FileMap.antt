-- Files by their paths.
use Rattle.std.specs.Prelude.{ℕ, List, Option}
use Rattle.std.specs.BTreeMap.{get_by_text}
use Rattle.jc_base.specs.declared.file_map.FileMap.{FileMap}

-- the bytes at a path
abbrev pub bytes_at : FileMap → List ℕ → Option (List ℕ)
bytes_at m path = get_by_text m.files path
