use Rattle.jc_shown.proofs.FilesPut.{none_put}
use Rattle.jc_commands.proofs.put.put_shown.Goals as goal

pub returns-in-Bytes-clause-whole : goal.returns-in-Bytes-clause-whole
returns-in-Bytes-clause-whole g c = rw c.in-Bytes.is (none_put (g.F.Folder.state c.args.folder.now).content)

pub returns-in-Row-clause-whole : goal.returns-in-Row-clause-whole
returns-in-Row-clause-whole g c = rw c.in-Row.is (none_put (g.F.Folder.state c.args.folder.now).content)
