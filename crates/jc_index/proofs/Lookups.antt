-- What a lookup finds, where one follows another.
use Rattle.std.proofs.Common.{◌≡◌, refl, List, [], Option, Some, None}
use Rattle.jc_facts.specs.Options.{or_else}
use Rattle.jc_facts.specs.world.Lookup.{or_choices}
use Rattle.jc_lemmas.proofs.Listed.{here}
use Rattle.jc_facts.specs.world.World.{World, DeclaredMember}
use Rattle.jc_index.specs.Lookups.{IsAnswer, IsChoice}
use Rattle.jc_index.specs.declared.ids.Found.{Found}

pub answer_none : (W : World) (o : Option DeclaredMember) → IsAnswer W None o → o ≡ None
answer_none W None a = refl
answer_none W (Some m) a = absurd a

-- what the first finds is found
pub answer_or : (W : World) (f : Found) (o p : Option DeclaredMember) → IsAnswer W (Some f) o → IsAnswer W (Some f) (or_else o p)
unfolding or_else
answer_or W f None p a = absurd a
answer_or W f (Some m) p a = a

-- where it finds nothing, what the next finds is
pub answer_else : (W : World) (r : Option Found) (o p : Option DeclaredMember) → IsAnswer W None o → IsAnswer W r p → IsAnswer W r (or_else o p)
unfolding or_else
answer_else W r None p a b = b
answer_else W r (Some m) p a b = absurd a

-- ---- choices after what is found first

pub choice_here : (W : World) (f : Found) (o : Option DeclaredMember) (ms : List DeclaredMember) → IsAnswer W (Some f) o → IsChoice W (Some f) (or_choices o ms)
unfolding or_choices
choice_here W f None ms h = absurd h
choice_here W f (Some m) ms h = (m, here m [], h)

pub choice_next : (W : World) (r : Option Found) (o : Option DeclaredMember) (ms : List DeclaredMember) → IsAnswer W None o → IsChoice W r ms → IsChoice W r (or_choices o ms)
unfolding or_choices
choice_next W r None ms h k = k
choice_next W r (Some m) ms h k = absurd h
