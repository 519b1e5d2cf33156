-- What items ask, and what is asked of clients.
use Rattle.std.specs.Prelude.{Bool, true, ◌||◌, not, List, [], ◌∷◌, ◌++◌}
use Rattle.std.specs.List.{list_all}
use Rattle.jc_facts.specs.declared.client.ClientClass.{ClientClass}
use Rattle.jc_desc.specs.Names.{is_clinit_name}
use Rattle.jc_facts.specs.declared.client.Item.{Item}
use Rattle.jc_facts.specs.declared.client.Item.TheVariants as item
use Rattle.jc_facts.specs.declared.outcome.Outcome.{Outcome}
use Rattle.jc_facts.specs.client.Acts.{is_act_on_field}
use Rattle.jc_facts.specs.client.Linked.{loading, item_outcomes, where_loaded}
use Rattle.jc_facts.specs.world.Loading.{load_fault}
use Rattle.jc_facts.specs.world.World.{World}
use Rattle.jc_link.specs.declared.asked.Asked.{Asked}

-- the item is no act on a method that names a class initializer
abbrev pub names_no_clinit : Item → Bool
names_no_clinit (item.Access act t k r place) = is_act_on_field act || not (is_clinit_name k.name)
names_no_clinit _ = true

-- none of the items that are asked is
abbrev pub asks_no_clinit : Asked → Bool
asks_no_clinit a = list_all names_no_clinit a.items

-- what is asked of a client
abbrev pub asked_of : ClientClass → Asked
asked_of c = record { name = c.facts.name; items = c.items }

-- its loading, and where it loads its items
abbrev pub outcomes_of_one : World → Asked → List Outcome
outcomes_of_one W a = loading W a.name ∷ where_loaded (load_fault W a.name) (item_outcomes W a.name a.items)

-- those of all, in a row
abbrev pub outcomes_of_asked : World → List Asked → List Outcome
outcomes_of_asked W [] = []
outcomes_of_asked W (a ∷ more) = outcomes_of_one W a ++ outcomes_of_asked W more
