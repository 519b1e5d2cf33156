-- Valid clients.
--     IsValidClient c      a valid record, with items that it may have
--     facts_of cs      the records of clients
use Rattle.std.specs.Prelude.{Bool, true, not, List, [], ◌∷◌, ◌||◌, IsTrue}
use Rattle.std.specs.List.{list_all}
use Rattle.jc_facts.specs.declared.class_facts.ClassFacts.{ClassFacts}
use Rattle.jc_facts.specs.declared.client.ClientClass.{ClientClass}
use Rattle.jc_facts.specs.declared.client.Item.{Item}
use Rattle.jc_facts.specs.declared.client.Item.TheVariants as item
use Rattle.jc_facts.specs.Names.{same}
use Rattle.jc_desc.specs.Names.{is_init_name, is_clinit_name}
use Rattle.jc_facts.specs.Options.{some_and}
use Rattle.jc_facts.specs.client.Acts.{is_act_on_field}
use Rattle.jc_facts.specs.file.Valid.{IsValidClass}

-- an item that a valid client may have: an instance initializer's call of its own class or superclass;
-- no act on a method that names an initializer
abbrev pub is_item_of : ClassFacts → Item → Bool
is_item_of c (item.Init t d) = same t c.name || some_and (same t) c.superclass
is_item_of c (item.Access act t k r place) = is_act_on_field act || not (is_init_name k.name || is_clinit_name k.name)
is_item_of c _ = true

-- a valid client: a valid record, with items that it may have
pub record IsValidClient (c : ClientClass) : Type 0 where
  pub facts : IsValidClass c.facts
  pub items : IsTrue (list_all (is_item_of c.facts) c.items)

-- the records of the clients
abbrev pub facts_of : List ClientClass → List ClassFacts
facts_of [] = []
facts_of (c ∷ cs) = c.facts ∷ facts_of cs
