-- What linking a world of clients gives (JVMS 5.3 to 5.4).
--     outcomes W cs      for each client over the side, in byte order of names, its loading, and where it loads each of its items
--     are_all_ok os      every outcome is Ok
use Rattle.std.specs.Prelude.{Bool, List, [], ◌∷◌, ◌++◌, Option, None, Some, is_none}
use Rattle.std.specs.List.{list_all}
use Rattle.jc_facts.specs.declared.client.ClientClass.{ClientClass}
use Rattle.jc_facts.specs.declared.client.Item.{Item}
use Rattle.jc_facts.specs.declared.link_error.LinkError.{LinkError}
use Rattle.jc_facts.specs.declared.outcome.Outcome.{Outcome}
use Rattle.jc_facts.specs.Names.{Bytes}
use Rattle.jc_facts.specs.ByName.{by_name}
use Rattle.jc_facts.specs.world.World.{World, with_clients}
use Rattle.jc_facts.specs.world.Loading.{load_fault}
use Rattle.jc_facts.specs.client.Outcome.{outcome}
use Rattle.jc_facts.specs.client.Valid.{facts_of}

-- ---- the order of clients

-- the clients in byte order of their names
abbrev pub in_order : List ClientClass → List ClientClass
in_order cs = by_name (λ (c : ClientClass). c.facts.name) cs

-- ---- outcomes

-- the outcome of the loading of x
abbrev pub loading : World → Bytes → Outcome
loading W x = record { «class» = x; item = None; error = load_fault W x }

-- the outcome of an item of x
abbrev pub linking : World → Bytes → Item → Outcome
linking W x i = record { «class» = x; item = Some i; error = outcome W x i }

-- those of its items, in order
abbrev pub item_outcomes : World → Bytes → List Item → List Outcome
item_outcomes W x [] = []
item_outcomes W x (i ∷ is) = linking W x i ∷ item_outcomes W x is

-- the outcomes, where the class loads
abbrev pub where_loaded : Option LinkError → List Outcome → List Outcome
where_loaded None os = os
where_loaded (Some e) os = []

-- the loading of the client, and where it loads its items
unfoldable pub client_outcomes : World → ClientClass → List Outcome
client_outcomes W c = loading W c.facts.name ∷ where_loaded (load_fault W c.facts.name) (item_outcomes W c.facts.name c.items)

-- those of all the clients, in a row
abbrev pub all_outcomes : World → List ClientClass → List Outcome
all_outcomes W [] = []
all_outcomes W (c ∷ cs) = client_outcomes W c ++ all_outcomes W cs

-- for each client over the side, in byte order of names, its loading, and where it loads each of its items in order
unfoldable pub outcomes : World → List ClientClass → List Outcome
outcomes W cs = all_outcomes (with_clients W (facts_of cs)) (in_order cs)

-- every outcome is Ok
abbrev pub are_all_ok : List Outcome → Bool
are_all_ok os = list_all (λ o. is_none o.error) os
