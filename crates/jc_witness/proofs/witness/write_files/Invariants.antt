use Rattle.std.proofs.Common.{◌≡◌, map, take}
use Rattle.jc_witness.specs.steps.PlanFiles.{written_file}
use Rattle.jc_witness.proofs.witness.write_files.Given as goal

abbrev pub invariant-loop-file : goal.invariant-loop-file
invariant-loop-file l = l.files.items ≡ map (written_file l.planned) (take l.file-index l.planned.files)
