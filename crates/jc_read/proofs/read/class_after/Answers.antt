use Rattle.std.proofs.Common.{sym}
use Rattle.jc_facts.proofs.ClassFiles.{class_file_stands}
use Rattle.jc_facts.proofs.ReadLists.{read_valid}
use Rattle.jc_read.proofs.read.class_after.Goals as goal

pub returns-in-Ok-Ok-clause-exact : goal.returns-in-Ok-Ok-clause-exact
returns-in-Ok-Ok-clause-exact c = class_file_stands c.args.bytes.now c.in-Ok-Ok.facts (sym (rw c.in-Ok-Ok.field-0-is at c.in-Ok-Ok.ensures))

pub returns-in-Ok-Ok-clause-valid : goal.returns-in-Ok-Ok-clause-valid
returns-in-Ok-Ok-clause-valid c = read_valid c.args.bytes.now c.in-Ok-Ok.facts (class_file_stands c.args.bytes.now c.in-Ok-Ok.facts (sym (rw c.in-Ok-Ok.field-0-is at c.in-Ok-Ok.ensures)))
