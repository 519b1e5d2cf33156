-- That it doesn't matter to linking which classes of a world are the platform's, the release's or clients, but for their modules.
use Rattle.std.specs.Prelude.{List, ◌++◌, ◌≡◌}
use Rattle.jc_facts.specs.declared.class_facts.ClassFacts.{ClassFacts}
use Rattle.jc_facts.specs.declared.client.Item.{Item}
use Rattle.jc_facts.specs.Names.{Bytes}
use Rattle.jc_facts.specs.world.World.{World, side, with_clients, find_class}
use Rattle.jc_worlds.specs.Agreement.{SeeAlike}
use Rattle.jc_facts.specs.world.Loading.{load_fault}
use Rattle.jc_facts.specs.client.Outcome.{outcome}

-- the two worlds have the same class under each name
abbrev pub FindAlike : World → World → Type 0
FindAlike W V = (x : Bytes) → find_class W x ≡ find_class V x

-- they agree on modules
abbrev pub AreModulesAlike : World → World → Type 0
AreModulesAlike W V = (x y : Bytes) → SeeAlike W V x y

-- they give each class the same load fault, and each item of each class the same outcome
pub record LinkAlike (W V : World) : Type 0 where
  pub loading : (x : Bytes) → load_fault W x ≡ load_fault V x
  pub items : (x : Bytes) (i : Item) → outcome W x i ≡ outcome V x i

-- worlds that have the same classes in the same modules link alike, whatever classes they count as clients
abbrev pub WorldsLinkAlike : Type 0
WorldsLinkAlike = (W V : World) → FindAlike W V → AreModulesAlike W V → LinkAlike W V

-- clients over a side of one module link as if they stood at the end of the release
abbrev pub ClientsLinkAsRelease : Type 0
ClientsLinkAsRelease = (platform release clients : List ClassFacts) → LinkAlike (with_clients (side platform release) clients) (side platform (release ++ clients))
