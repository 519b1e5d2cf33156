use Rattle.jc_sig.proofs.SignedMaps.{HasLast}
use Rattle.jc_sig.proofs.signed.signatures_of.Given as goal

abbrev pub invariant-loop-done : goal.invariant-loop-done
invariant-loop-done l = HasLast l.signatures l.done l.by_key
