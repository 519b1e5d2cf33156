use Rattle.std.proofs.Common.{[], ◌∷◌, map}
use Rattle.jc_shown.specs.Witness.{put_file}
use Rattle.jc_shown.proofs.FilesPut.{next_left, put_more, put_failed}
use Rattle.jc_shown.proofs.put_witnesses.put_files.Goals as goal

pub returns-in-Err-clause-part : goal.returns-in-Err-clause-part
returns-in-Err-clause-part g c =
    put_failed _ _ _ (put_file c.args.dir.now c.args.number c.file-item.result ∷ []) _ _
    (next_left (map (put_file c.args.dir.now c.args.number)) c.args.files.now c.loop-file.file-index c.file-item.result _ _ _ c.loop-file-test.true c.file-item.is c.loop-file.invariant) c.in-Err.ensures.part

pub loop-file-preserved : goal.loop-file-preserved
loop-file-preserved g c =
    put_more _ _ _ (put_file c.args.dir.now c.args.number c.file-item.result ∷ []) _ _
    (next_left (map (put_file c.args.dir.now c.args.number)) c.args.files.now c.loop-file.file-index c.file-item.result _ _ _ c.loop-file-test.true c.file-item.is c.loop-file.invariant) c.in-Ok.ensures.whole c.in-Ok.ensures.never_falls
