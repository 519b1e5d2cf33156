use Rattle.std.proofs.Common.{sym}
use Rattle.jc_index.proofs.Mentions.{adds_known}
use Rattle.jc_index.proofs.names.NumberedNames.put_bytes.Goals as goal

pub returns-then-has : goal.returns-then-has
returns-then-has c = adds_known c.args.self.now c.args.bytes.now (sym c.if-has.ensures)
