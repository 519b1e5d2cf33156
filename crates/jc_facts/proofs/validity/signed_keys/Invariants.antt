use Rattle.std.proofs.Common.{◌≡◌, ◌++◌, drop}
use Rattle.jc_facts.specs.file.Valid.{keys_of_signatures}
use Rattle.jc_facts.proofs.validity.signed_keys.Given as goal

abbrev pub invariant-loop-signed : goal.invariant-loop-signed
invariant-loop-signed l = l.keys.items ++ keys_of_signatures (drop l.signed-index l.signatures) ≡ keys_of_signatures l.signatures
