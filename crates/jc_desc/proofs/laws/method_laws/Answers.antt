use Rattle.std.proofs.Common.{◌≡◌, List, ℕ, Some, min, refl}
use Rattle.jc_desc.specs.Reading.{slots_of_method}
use Rattle.jc_desc.specs.Types.{Method, SpellsMethod, slots_of}
use Rattle.jc_desc.proofs.Apart.{one_method}
use Rattle.jc_desc.proofs.Methods.{method_is, method_again}
use Rattle.jc_desc.proofs.laws.method_laws.Goals as goal

pub returns-clause-reads : goal.returns-clause-reads
returns-clause-reads c = λ bytes m. (method_is bytes m, method_again bytes m)

pub returns-clause-one : goal.returns-clause-one
returns-clause-one c = one_method

counts : (bytes : List ℕ) (m : Method) → SpellsMethod bytes m → slots_of_method bytes ≡ Some (min (slots_of m.params) 4294967295)
unfolding slots_of_method
counts bytes m h = rw (method_again bytes m h) refl

pub returns-clause-slots : goal.returns-clause-slots
returns-clause-slots c = counts
