use Rattle.jc_read.proofs.OneRecord.{one_of_both}
use Rattle.jc_read.proofs.laws.one_record_or_one_fault.Goals as goal

pub returns : goal.returns
returns c = λ bytes. one_of_both bytes
