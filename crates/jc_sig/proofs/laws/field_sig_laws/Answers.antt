use Rattle.jc_sig.proofs.OneTree.{field_reads, field_one, field_read_back, field_written_back}
use Rattle.jc_sig.proofs.laws.field_sig_laws.Goals as goal

pub returns-clause-reads : goal.returns-clause-reads
returns-clause-reads c = field_reads

pub returns-clause-one : goal.returns-clause-one
returns-clause-one c = field_one

pub returns-clause-read_back : goal.returns-clause-read_back
returns-clause-read_back c = field_read_back

pub returns-clause-written_back : goal.returns-clause-written_back
returns-clause-written_back c = field_written_back
