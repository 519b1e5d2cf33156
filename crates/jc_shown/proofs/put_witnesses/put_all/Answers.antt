use Rattle.jc_shown.proofs.CausesPut.{findings_failed, collisions_put, collisions_failed}
use Rattle.jc_shown.proofs.put_witnesses.put_all.Goals as goal

pub returns-in-Err-clause-part : goal.returns-in-Err-clause-part
returns-in-Err-clause-part g c =
    findings_failed c.args.of.now.dir.now c.args.of.now.old c.args.of.now.new c.args.verdict.now (g.F.Folder.state c.args.folder.now) (g.F.Folder.state c.put_causes.new.folder)
    (rw (c.requires.sides, c.as_slice-findings.ensures) at c.in-Err.ensures.part)

pub returns-in-Ok-put_causes-clause-whole : goal.returns-in-Ok-put_causes-clause-whole
returns-in-Ok-put_causes-clause-whole g c =
    collisions_put c.args.of.now.dir.now c.args.of.now.old c.args.of.now.new c.args.verdict.now (g.F.Folder.state c.args.folder.now) (g.F.Folder.state c.put_causes.new.folder)
    (g.F.Folder.state c.put_causes-2.new.folder) (rw (c.requires.sides, c.as_slice-findings.ensures) at c.in-Ok.ensures.whole) c.in-Ok.ensures.never_falls
    (rw (c.requires.sides, c.as_slice-findings.ensures, c.as_slice-collisions.ensures) at c.in-Ok-put_causes.ensures.whole) c.in-Ok-put_causes.ensures.never_falls

pub returns-in-Err-put_causes-clause-part : goal.returns-in-Err-put_causes-clause-part
returns-in-Err-put_causes-clause-part g c =
    collisions_failed c.args.of.now.dir.now c.args.of.now.old c.args.of.now.new c.args.verdict.now (g.F.Folder.state c.args.folder.now) (g.F.Folder.state c.put_causes.new.folder)
    (g.F.Folder.state c.put_causes-2.new.folder) (rw (c.requires.sides, c.as_slice-findings.ensures) at c.in-Ok.ensures.whole) c.in-Ok.ensures.never_falls
    (rw (c.requires.sides, c.as_slice-findings.ensures, c.as_slice-collisions.ensures) at c.in-Err-put_causes.ensures.part)
