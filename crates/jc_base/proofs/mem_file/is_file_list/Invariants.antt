use Rattle.std.proofs.Common.{◌≡◌, length}
use Rattle.jc_base.specs.Outside.{are_files}
use Rattle.jc_base.specs.MemFile.{files_of}
use Rattle.jc_base.proofs.mem_file.is_file_list.Given as goal

abbrev pub invariant-loop-first : goal.invariant-loop-first
invariant-loop-first l = are_files (files_of l.rest) ≡ are_files (files_of l.files)

abbrev pub decreases-loop-first : goal.decreases-loop-first
decreases-loop-first l = length l.rest
