use Rattle.std.proofs.Common.{◌≡◌, drop}
use Rattle.std.specs.List.{list_all}
use Rattle.jc_facts.specs.file.Valid.{is_valid_signature}
use Rattle.jc_facts.proofs.validity.are_signatures.Given as goal

abbrev pub invariant-loop-signed : goal.invariant-loop-signed
invariant-loop-signed l = list_all (is_valid_signature l.facts) (drop l.signed-index l.facts.signatures) ≡ list_all (is_valid_signature l.facts) l.facts.signatures
