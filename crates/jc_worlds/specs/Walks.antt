-- Searches from a client: over the records of clients, and at library names over the side alone.
use Rattle.std.specs.Prelude.{ℕ, zero, suc, List, [], ◌++◌, ◌≡◌, Option, None, Some, true, All, IsTrue}
use Rattle.jc_facts.specs.declared.class_facts.ClassFacts.{ClassFacts}
use Rattle.jc_facts.specs.declared.key.Key.{Key}
use Rattle.jc_facts.specs.Names.{Bytes}
use Rattle.jc_facts.specs.world.World.{World, class_named, size, is_client, with_clients}
use Rattle.jc_facts.specs.world.Hierarchy.{chain, chain_step}
use Rattle.jc_facts.specs.world.Loading.{load_fault}
use Rattle.jc_facts.specs.world.Lookup.{field_found, field_step}
use Rattle.jc_facts.specs.client.Allowed.{is_allowed_name}
use Rattle.jc_facts.specs.client.Seats.{seat}

-- what `step` makes of the client, or what the library gives of the name
abbrev pub of_client : {B : Type 0} → B → (ClassFacts → B) → Option ClassFacts → B
of_client library step None = library
of_client library step (Some c) = step c

-- a search over clients alone, at most n levels deep, where `library` answers for every other name
unfoldable pub over_clients : {B : Type 0} → List ClassFacts → (Bytes → B) → ((Bytes → B) → ClassFacts → B) → ℕ → Bytes → B
over_clients cs library step zero x = library x
over_clients cs library step (suc n) x = of_client (library x) (step (over_clients cs library step n)) (class_named cs x)

-- the field lookup and the chain of a class that loads in a world of clients with allowed names are searches over the clients'
-- records, with the side's own lookup and chain at library names
abbrev pub WalksOverClients : Type 0
WalksOverClients = (W : World) (clients : List ClassFacts) → W.clients ≡ [] → All (λ c. IsTrue (is_allowed_name W c.name)) clients
    → let V = with_clients W clients in (x : Bytes) → load_fault V x ≡ None
    → ((k : Key) → field_found V x k ≡ over_clients clients (λ y. field_found W y k) (field_step k) (size V) x)
    × (chain V x ≡ over_clients clients (chain W) chain_step (size V) x)

-- the chain of a class that loads is clients, and then the side's own chain of its seat
abbrev pub SeatEndsTheClients : Type 0
SeatEndsTheClients = (W : World) (clients : List ClassFacts) → W.clients ≡ [] → All (λ c. IsTrue (is_allowed_name W c.name)) clients
    → let V = with_clients W clients in (x a : Bytes) → load_fault V x ≡ None → seat V x ≡ Some a
    → (below : List ClassFacts) × (All (λ c. is_client V c.name ≡ true) below) × (chain V x ≡ below ++ chain W a)
