use Rattle.std.specs.Prelude.{List, map}
use Rattle.jc_base.specs.declared.mem_file.MemFile.{MemFile}
use Rattle.jc_base.specs.Outside.{FileOf}

-- a file without where it lies in memory
abbrev pub file_of : MemFile → FileOf
file_of f = record { root = f.root; path = f.path; bytes = f.bytes.items }

abbrev pub files_of : List MemFile → List FileOf
files_of = map file_of
