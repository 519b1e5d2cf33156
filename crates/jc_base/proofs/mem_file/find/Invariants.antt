use Rattle.std.proofs.Common.{◌≡◌, drop}
use Rattle.jc_base.specs.Outside.{file_at}
use Rattle.jc_base.specs.MemFile.{files_of}
use Rattle.jc_base.proofs.mem_file.find.Given as goal

abbrev pub invariant-loop-file : goal.invariant-loop-file
invariant-loop-file l = file_at l.root l.path (files_of (drop l.file-index l.files)) ≡ file_at l.root l.path (files_of l.files)
