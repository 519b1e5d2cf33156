-- That an answer for a seat is that of each client with this seat.
use Rattle.std.specs.Prelude.{Bool, List, [], None, Some, ◌≡◌, IsTrue}
use Rattle.std.specs.List.{All}
use Rattle.jc_facts.specs.declared.class_facts.ClassFacts.{ClassFacts}
use Rattle.jc_facts.specs.Names.{Bytes}
use Rattle.jc_facts.specs.world.World.{World, with_clients, is_client}
use Rattle.jc_facts.specs.world.Loading.{load_fault}
use Rattle.jc_facts.specs.client.Allowed.{is_allowed_name}
use Rattle.jc_facts.specs.client.Seats.{seat}
use Rattle.jc_index.specs.Ids.{name_at}
use Rattle.jc_index.specs.Sides.{IsSide}
use Rattle.jc_access.specs.declared.access.Seat.{Seat}
use Rattle.jc_access.specs.declared.access.Seat.TheVariants as seats

-- whatever the clients over a side without clients are, as long as their names are allowed, the answer is what the test gives of each
-- of them that loads and whose seat is the class a
abbrev pub SpeaksForSeat : World → Bytes → (World → Bytes → Bool) → Bool → Type 0
SpeaksForSeat W a test answer = IsSide W → W.clients ≡ [] → (clients : List ClassFacts) → All (λ c. IsTrue (is_allowed_name W c.name)) clients
    → let V = with_clients W clients in (x : Bytes) → IsTrue (is_client V x) → load_fault V x ≡ None → seat V x ≡ Some a → answer ≡ test V x

-- the same of the clients that a seat stands for; one inside the table stands for none
abbrev pub SpeaksFor : World → Seat → (World → Bytes → Bool) → Bool → Type 0
SpeaksFor W (seats.Inside x) test answer = Unit {0}
SpeaksFor W (seats.Client a) test answer = SpeaksForSeat W (name_at W a) test answer
