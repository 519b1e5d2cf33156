use Rattle.std.proofs.Common.{◌≡◌, drop}
use Rattle.jc_base.specs.Outside.{has_file}
use Rattle.jc_base.specs.MemFile.{files_of}
use Rattle.jc_base.proofs.mem_file.is_among.Given as goal

abbrev pub invariant-loop-file : goal.invariant-loop-file
invariant-loop-file l = has_file l.root l.path (files_of (drop l.file-index l.files)) ≡ has_file l.root l.path (files_of l.files)
