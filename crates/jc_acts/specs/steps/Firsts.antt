-- The first of several things of which something is said.
use Rattle.std.specs.Prelude.{List, [], ◌∷◌, Option, None, Some}
use Rattle.jc_facts.specs.declared.act.Act.{Act}
use Rattle.jc_facts.specs.declared.key.Key.{Key}
use Rattle.jc_facts.specs.declared.link_error.LinkError.{LinkError}
use Rattle.jc_facts.specs.Names.{Bytes}
use Rattle.jc_promises.specs.rule.OpenActs.{closed_act}
use Rattle.jc_sides.specs.SidesOf.{SidesOf}
use Rattle.jc_acts.specs.declared.closed_act.ClosedAct.{ClosedAct}

-- the thing with what is said of it, or else the rest
abbrev pub with_or : {X A : Type 0} → X → Option A → Option (X × A) → Option (X × A)
with_or x None rest = rest
with_or x (Some e) rest = Some (x, e)

-- the first of which `f` says something, with that
unfoldable pub first_at : {X A : Type 0} → (X → Option A) → List X → Option (X × A)
first_at f [] = None
first_at f (x ∷ xs) = with_or x (f x) (first_at f xs)

-- the first of the acts of which `f` gives an error with one of these seats, with the first such seat and the error
abbrev pub first_pair : (Act → Bytes → Option LinkError) → List Bytes → List Act → Option (Act × (Bytes × LinkError))
first_pair f seats acts = first_at (λ what. first_at (f what) seats) acts

-- the error of the act on the key of the class x, with the seat to which it was open
abbrev pub closed_on : SidesOf → Bytes → Key → Act → Bytes → Option LinkError
closed_on s x k what a = closed_act s.old s.new x k what a

-- the act, the seat and the error
abbrev pub closed_view : ClosedAct → Act × (Bytes × LinkError)
closed_view c = (c.act, (c.seat.now, c.error))
