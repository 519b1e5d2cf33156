use Rattle.jc_desc.proofs.Apart.{apart, no_array}
use Rattle.jc_desc.proofs.laws.kinds_apart.Goals as goal

pub returns-clause-descriptors : goal.returns-clause-descriptors
returns-clause-descriptors c = λ t m ht hm. apart t m

pub returns-clause-arrays : goal.returns-clause-arrays
returns-clause-arrays c = no_array
