use Rattle.std.proofs.Common.{sym}
use Rattle.jc_code.proofs.ValidFile.{file_valid}
use Rattle.jc_code.proofs.items.items_of.Goals as goal

pub returns-in-Ok-Ok-clause-valid : goal.returns-in-Ok-Ok-clause-valid
returns-in-Ok-Ok-clause-valid c = λ facts r. file_valid c.args.bytes.now facts c.in-Ok-Ok.found.items r (sym (rw c.in-Ok-Ok.field-0-is at c.in-Ok-Ok.ensures))
