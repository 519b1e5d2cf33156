use Rattle.std.proofs.Common.{ap}
use Rattle.jc_commands.specs.ReportValue.{dir_shown}
use Rattle.jc_shown.proofs.FilesPut.{none_put}
use Rattle.jc_commands.proofs.put.put_asked.Goals as goal

pub returns-in-None-clause-whole : goal.returns-in-None-clause-whole
returns-in-None-clause-whole g c = rw c.in-None.is (none_put (g.F.Folder.state c.args.folder.now).content)

pub returns-in-Err-clause-asked_for : goal.returns-in-Err-clause-asked_for
returns-in-Err-clause-asked_for g c = (c.in-Some.shown.dir.now, ap dir_shown c.in-Some.is)
