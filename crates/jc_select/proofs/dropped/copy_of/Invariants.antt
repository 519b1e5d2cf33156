use Rattle.std.proofs.Common.{◌≡◌, ◌++◌, ℕ, List}
use Rattle.jc_select.proofs.SetsOf.{IsOfKeys}
use Rattle.jc_select.proofs.dropped.copy_of.Given as goal

abbrev pub invariant-loop-id : goal.invariant-loop-id
invariant-loop-id l = (front : List ℕ) × (l.fn.set.keys ≡ front ++ l.id-iterator) × IsOfKeys front l.copy
