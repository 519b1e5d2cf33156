-- What it is that a new release keeps for clients.
--     Keeps old new cs      the new release keeps what the old one gave these clients
use Rattle.std.specs.Prelude.{List, None, IsTrue, ◌≡◌}
use Rattle.std.specs.List.{Contains}
use Rattle.jc_facts.specs.declared.client.ClientClass.{ClientClass}
use Rattle.jc_facts.specs.declared.client.Item.{Item}
use Rattle.jc_facts.specs.world.World.{World, with_clients}
use Rattle.jc_facts.specs.world.Loading.{load_fault}
use Rattle.jc_facts.specs.client.Outcome.{Links}
use Rattle.jc_facts.specs.client.Valid.{facts_of}
use Rattle.jc_promises.specs.client.Reach.{is_in_reach}

-- each client that loads with the old release loads with the new, and each item of such a client that is in reach and Ok with the old
-- is Ok with the new
pub record Keeps (old new : World) (cs : List ClientClass) : Type 0 where
  pub loading : (c : ClientClass) → Contains cs c → load_fault (with_clients old (facts_of cs)) c.facts.name ≡ None
      → load_fault (with_clients new (facts_of cs)) c.facts.name ≡ None
  pub uses : (c : ClientClass) (i : Item) → Contains cs c → load_fault (with_clients old (facts_of cs)) c.facts.name ≡ None
      → Contains c.items i → IsTrue (is_in_reach (with_clients old (facts_of cs)) c.facts.name cs i)
      → Links (with_clients old (facts_of cs)) c.facts.name i → Links (with_clients new (facts_of cs)) c.facts.name i
