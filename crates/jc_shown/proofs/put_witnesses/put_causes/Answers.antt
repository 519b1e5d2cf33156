use Rattle.jc_shown.proofs.CausesPut.{no_cause, next_cause}
use Rattle.jc_shown.proofs.FilesPut.{put_more, put_failed}
use Rattle.jc_shown.proofs.put_witnesses.put_causes.Goals as goal

pub returns-in-Err-clause-part : goal.returns-in-Err-clause-part
returns-in-Err-clause-part g c =
    put_failed _ _ _ _ _ _
    (next_cause g.C.Witnessed.cause c.args.dir.now c.args.planner.now.old c.args.planner.now.new c.args.first c.args.causes.now c.loop-i.i c.index-causes-i.result _ _ _ c.loop-i-test.true c.index-causes-i.is c.loop-i.invariant) c.in-Err.ensures.part

pub loop-i-init : goal.loop-i-init
loop-i-init g c = no_cause g.C.Witnessed.cause c.args.dir.now c.args.planner.now.old c.args.planner.now.new c.args.first c.args.causes.now (g.F.Folder.state c.args.folder.now)

pub loop-i-preserved : goal.loop-i-preserved
loop-i-preserved g c =
    put_more _ _ _ _ _ _
    (next_cause g.C.Witnessed.cause c.args.dir.now c.args.planner.now.old c.args.planner.now.new c.args.first c.args.causes.now c.loop-i.i c.index-causes-i.result _ _ _ c.loop-i-test.true c.index-causes-i.is c.loop-i.invariant) c.in-Ok.ensures.whole c.in-Ok.ensures.never_falls
