use Rattle.jc_shown.proofs.PathsApart.{are_utf8}
use Rattle.jc_shown.proofs.put_witnesses.put_cause.Goals as goal

pub put_files-requires : goal.put_files-requires
put_files-requires g c = rw c.as_slice.ensures.value (are_utf8 c.args.planner.now.old c.args.planner.now.new (g.C.Witnessed.cause c.args.cause.now) c.in-Ok.files.items c.in-Ok.ensures)
