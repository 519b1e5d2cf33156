use Rattle.jc_sig.proofs.OneTree.{class_reads, class_one, class_read_back, class_written_back}
use Rattle.jc_sig.proofs.laws.class_sig_laws.Goals as goal

pub returns-clause-reads : goal.returns-clause-reads
returns-clause-reads c = class_reads

pub returns-clause-one : goal.returns-clause-one
returns-clause-one c = class_one

pub returns-clause-read_back : goal.returns-clause-read_back
returns-clause-read_back c = class_read_back

pub returns-clause-written_back : goal.returns-clause-written_back
returns-clause-written_back c = class_written_back
