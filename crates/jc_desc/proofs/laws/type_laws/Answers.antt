use Rattle.jc_desc.proofs.Again.{field_again}
use Rattle.jc_desc.proofs.Apart.{one_type}
use Rattle.jc_desc.proofs.Grammar.{field_is}
use Rattle.jc_desc.proofs.laws.type_laws.Goals as goal

pub returns-clause-reads : goal.returns-clause-reads
returns-clause-reads c = λ bytes t. (field_is bytes t, field_again bytes t)

pub returns-clause-one : goal.returns-clause-one
returns-clause-one c = one_type
