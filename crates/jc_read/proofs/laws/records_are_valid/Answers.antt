use Rattle.jc_facts.proofs.ReadLists.{read_valid}
use Rattle.jc_read.proofs.laws.records_are_valid.Goals as goal

pub returns : goal.returns
returns c = λ bytes facts h. read_valid bytes facts h
