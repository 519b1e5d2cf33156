-- The linking of clients: what it reads, why that is refused, and its outcomes.
use Rattle.std.specs.Prelude.{◌≡◌, List, [], ◌∷◌, Option, None, option_map}
use Rattle.jc_base.specs.Outside.{FileOf}
use Rattle.jc_facts.specs.declared.class_facts.ClassFacts.{ClassFacts}
use Rattle.jc_facts.specs.declared.client.ClientClass.{ClientClass}
use Rattle.jc_facts.specs.declared.outcome.Outcome.{Outcome}
use Rattle.jc_facts.specs.Names.{Bytes}
use Rattle.jc_facts.specs.Options.{or_else}
use Rattle.jc_facts.specs.client.Linked.{outcomes}
use Rattle.jc_facts.specs.world.World.{World, Modules, side_in}
use Rattle.jc_link.specs.Refusals.{refused_client}
use Rattle.jc_link.specs.declared.refusal.ClientPart.{ClientPart}
use Rattle.jc_trees.specs.ReadTrees.{GiveAll}
use Rattle.jc_trees.specs.declared.tree_read.TreeRead.TheVariants as reads
use Rattle.jc_releases.specs.Command.{trees_of}
use Rattle.jc_words.specs.Command.{LinkOf, LinkCommand}
use Rattle.jc_releases.specs.Releases.{read_as, release_at, mismatch_among}
use Rattle.jc_trees.specs.declared.tree.TreeName.TheVariants as names
use Rattle.jc_releases.specs.declared.stop.Stop.{Stop}
use Rattle.jc_releases.specs.declared.stop.Stop.TheVariants as stops

-- the records of the platform and of the release with its modules, and the clients with the items of their code
pub record LinkRecords (files : List FileOf) (link : LinkOf) : Type 0 where
  pub platform : List ClassFacts
  pub release : List ClassFacts
  pub modules : Modules
  pub clients : List ClientClass
  pub are : GiveAll files (trees_of (LinkCommand link)) (reads.Library platform ∷ read_as modules release ∷ reads.Clients clients ∷ [])

-- the platform with the release
abbrev pub release_side : {files : List FileOf} {link : LinkOf} → LinkRecords files link → World
release_side r = side_in r.modules r.platform r.release

-- a client's name that the side doesn't allow
abbrev pub client_name : Bytes × ClientPart → Stop
client_name refused = stops.ClientName refused.0 refused.1

-- the first reason why the clients aren't linked: the release doesn't go with the platform, or the side doesn't allow the name of a client
abbrev pub refusal_of : World → List ClientClass → Option Stop
refusal_of W clients = or_else (mismatch_among W.platform (release_at names.Release W.release ∷ [])) (option_map client_name (refused_client W clients))

-- the outcomes of the clients, where nothing refuses them: for each in byte order of names its loading, and where it loads those of its items
pub record AreOutcomesOf (W : World) (clients : List ClientClass) (list : List Outcome) : Type 0 where
  pub fits : refusal_of W clients ≡ None
  pub exact : list ≡ outcomes W clients
