use Rattle.std.proofs.Common.{drop, map}
use Rattle.jc_shown.specs.Witness.{put_file}
use Rattle.jc_shown.proofs.FilesPut.{IsPut}
use Rattle.jc_shown.proofs.put_witnesses.put_files.Given as goal

abbrev pub invariant-loop-file : goal.invariant-loop-file
invariant-loop-file g l =
    IsPut (map (put_file l.dir l.number) (drop l.file-index l.files)) (map (put_file l.dir l.number) l.files) (g.F.Folder.state l.fn.folder) (g.F.Folder.state l.folder)
