-- What is found in the records of a link, on the way.
use Rattle.std.specs.Prelude.{◌≡◌, ◌⊎◌, List, Some}
use Rattle.jc_facts.specs.declared.client.ClientClass.{ClientClass}
use Rattle.jc_facts.specs.world.World.{World}
use Rattle.jc_link.specs.declared.refusal.LinkRefusal.{LinkRefusal}
use Rattle.jc_link.specs.declared.refusal.LinkRefusal.TheVariants as refusals
use Rattle.jc_commands.specs.Link.{refusal_of}
use Rattle.jc_trees.specs.declared.tree.TreeName.TheVariants as names
use Rattle.jc_releases.specs.declared.stop.Stop.{Stop}
use Rattle.jc_releases.specs.declared.stop.Stop.TheVariants as stops

-- why linking the clients stopped
abbrev pub StopsLinking : World → List ClientClass → Stop → Type 0
StopsLinking W clients stop = (refusal_of W clients ≡ Some stop) ⊎ (stop ≡ stops.Memory)

-- how a refusal stops it
abbrev pub stop_by_refusal : LinkRefusal → Stop
stop_by_refusal (refusals.BadRoot part) = stops.BadRoot part
stop_by_refusal (refusals.Overlap class) = stops.Overlap names.Release class
stop_by_refusal (refusals.ClientName name part) = stops.ClientName name part
stop_by_refusal refusals.Memory = stops.Memory
