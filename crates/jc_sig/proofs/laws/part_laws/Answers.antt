use Rattle.jc_sig.proofs.OneTree.{one_type_parameters, one_class, one_row, one_result}
use Rattle.jc_sig.proofs.laws.part_laws.Goals as goal

pub returns-clause-parameters : goal.returns-clause-parameters
returns-clause-parameters c = one_type_parameters

pub returns-clause-classes : goal.returns-clause-classes
returns-clause-classes c = one_class

pub returns-clause-arguments : goal.returns-clause-arguments
returns-clause-arguments c = one_row

pub returns-clause-results : goal.returns-clause-results
returns-clause-results c = one_result
