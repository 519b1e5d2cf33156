-- Laws of reach: what one client opens is in reach of all.
--     MoreClientsReachMore      of further clients more is in reach
--     ReachesByItself      what a client opens by its own items is in reach of it, and of each other client
use Rattle.std.specs.Prelude.{List, None, ◌≡◌, IsTrue}
use Rattle.std.specs.List.{list_any, Contains}
use Rattle.jc_facts.specs.declared.client.ClientClass.{ClientClass}
use Rattle.jc_facts.specs.declared.client.Item.{Item}
use Rattle.jc_facts.specs.Names.{Bytes}
use Rattle.jc_facts.specs.world.World.{World}
use Rattle.jc_facts.specs.world.Loading.{loads, load_fault}
use Rattle.jc_promises.specs.client.Reach.{opens, class_in_reach, is_in_reach}

-- Of the clients of one world: what is in reach where some of them open classes is in reach where more of them do.
abbrev pub MoreClientsReachMore : Type 0
MoreClientsReachMore = (W : World) (cs ds : List ClientClass) → ((y : ClientClass) → Contains cs y → Contains ds y)
    → (x : Bytes) (i : Item) → IsTrue (is_in_reach W x cs i) → IsTrue (is_in_reach W x ds i)

-- A class that loads, and that one of the items of a client that loads opens, is in reach of each client.
abbrev pub ReachesByItself : Type 0
ReachesByItself = (W : World) (cs : List ClientClass) (y : ClientClass) → Contains cs y → load_fault W y.facts.name ≡ None
    → (c : Bytes) → IsTrue (loads W c) → IsTrue (list_any (opens W y.facts.name c) y.items) → (x : Bytes) → IsTrue (class_in_reach W x cs c)
