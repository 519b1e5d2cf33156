use Rattle.jc_base.specs.States.{change}
use Rattle.jc_shown.proofs.PathsApart.{puts_files, puts_some}
use Rattle.jc_shown.proofs.put_witnesses.put_witnesses.Goals as goal

pub returns-in-Ok-put_all-clause-whole : goal.returns-in-Ok-put_all-clause-whole
returns-in-Ok-put_all-clause-whole g c =
    puts_files c.args.of.now.dir.now c.args.of.now.old c.args.of.now.new c.args.verdict.now c.requires.few c.requires.shown (change g.F.Folder.state c.args.folder.now c.put_all.new.folder) c.in-Ok-put_all.ensures.whole

pub returns-clause-some : goal.returns-clause-some
returns-clause-some g c =
    puts_some c.args.of.now.dir.now c.args.of.now.old c.args.of.now.new c.args.verdict.now c.requires.few c.requires.shown (change g.F.Folder.state c.args.folder.now c.put_all.new.folder) c.in-Err.ensures.part
