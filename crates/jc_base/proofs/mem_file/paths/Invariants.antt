use Rattle.std.proofs.Common.{◌≡◌, ◌++◌, drop}
use Rattle.jc_base.specs.MemPaths.{paths_of}
use Rattle.jc_base.specs.MemFile.{files_of}
use Rattle.jc_base.proofs.mem_file.paths.Given as goal

abbrev pub invariant-loop-file : goal.invariant-loop-file
invariant-loop-file l = l.found.items ++ paths_of l.root (files_of (drop l.file-index l.files)) ≡ paths_of l.root (files_of l.files)
