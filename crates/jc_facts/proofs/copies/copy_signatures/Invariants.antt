use Rattle.std.proofs.Common.{◌≡◌, take}
use Rattle.jc_facts.proofs.copies.copy_signatures.Given as goal

abbrev pub invariant-loop-signature : goal.invariant-loop-signature
invariant-loop-signature l = l.copies.items ≡ take l.signature-index l.signatures
