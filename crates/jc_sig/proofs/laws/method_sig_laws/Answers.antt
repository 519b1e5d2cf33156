use Rattle.jc_sig.proofs.OneTree.{method_reads, method_one, method_read_back, method_written_back}
use Rattle.jc_sig.proofs.laws.method_sig_laws.Goals as goal

pub returns-clause-reads : goal.returns-clause-reads
returns-clause-reads c = method_reads

pub returns-clause-one : goal.returns-clause-one
returns-clause-one c = method_one

pub returns-clause-read_back : goal.returns-clause-read_back
returns-clause-read_back c = method_read_back

pub returns-clause-written_back : goal.returns-clause-written_back
returns-clause-written_back c = method_written_back
