use Rattle.std.proofs.Common.{◌+◌, drop, map}
use Rattle.jc_shown.specs.Witness.{files_from}
use Rattle.jc_shown.proofs.FilesPut.{IsPut}
use Rattle.jc_shown.proofs.put_witnesses.put_causes.Given as goal

abbrev pub invariant-loop-i : goal.invariant-loop-i
invariant-loop-i g l =
    IsPut (files_from l.dir l.planner.old l.planner.new (l.first + l.i) (map g.C.Witnessed.cause (drop l.i l.causes))) (files_from l.dir l.planner.old l.planner.new l.first (map g.C.Witnessed.cause l.causes))
    (g.F.Folder.state l.fn.folder) (g.F.Folder.state l.folder)
