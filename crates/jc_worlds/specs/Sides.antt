-- A side in a world of clients.
use Rattle.std.specs.Prelude.{List, [], ◌≡◌, None, All, IsTrue}
use Rattle.jc_facts.specs.declared.class_facts.ClassFacts.{ClassFacts}
use Rattle.jc_facts.specs.Names.{Bytes}
use Rattle.jc_facts.specs.world.World.{World, class_named, with_clients}
use Rattle.jc_facts.specs.world.Loading.{load_fault}
use Rattle.jc_facts.specs.client.Allowed.{is_allowed_name}
use Rattle.jc_worlds.specs.Agreement.{LooksTheSame}

-- a name that no client has gives the same load fault in each world over the side whose clients have allowed names, and the
-- same lookups where it loads
abbrev pub SidesStay : Type 0
SidesStay = (W : World) (clients : List ClassFacts) → W.clients ≡ [] → All (λ c. IsTrue (is_allowed_name W c.name)) clients
    → (x : Bytes) → class_named clients x ≡ None
    → (load_fault W x ≡ load_fault (with_clients W clients) x)
    × (load_fault W x ≡ None → LooksTheSame W (with_clients W clients) x)
