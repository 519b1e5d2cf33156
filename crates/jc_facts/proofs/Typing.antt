-- The stack of a frame.
use Rattle.std.proofs.Common.{◌≡◌, List, [], ◌∷◌, ◌++◌, Some, refl}
use Rattle.jc_facts.specs.code.Typing.{Kind, pop}

pub pop_push : (ks : List Kind) (k : Kind) → pop (ks ++ k ∷ []) ≡ Some (k, ks)
unfolding pop
pop_push [] k = refl
pop_push (x ∷ ks) k = rw (pop_push ks k) refl
