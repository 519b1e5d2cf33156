-- Items of valid clients name no class initializer, and what is asked of clients gives their outcomes.
use Rattle.std.proofs.Common.{◌≡◌, Bool, true, false, not, List, [], ◌∷◌, ◌++◌, map, refl, ap, ◌||◌}
use Rattle.std.specs.Prelude.{IsTrue}
use Rattle.std.specs.List.{All, list_all}
use Rattle.std.proofs.lemmas.Bool.{and_parts}
use Rattle.std.proofs.lemmas.List.Elements.{recursion_from_All}
use Rattle.jc_desc.specs.Names.{is_init_name, is_clinit_name}
use Rattle.jc_facts.specs.declared.class_facts.ClassFacts.{ClassFacts}
use Rattle.jc_facts.specs.declared.client.ClientClass.{ClientClass}
use Rattle.jc_facts.specs.declared.client.Item.{Item}
use Rattle.jc_facts.specs.declared.client.Item.TheVariants as item
use Rattle.jc_facts.specs.declared.outcome.Outcome.{Outcome}
use Rattle.jc_facts.specs.world.World.{World}
use Rattle.jc_facts.specs.client.Acts.{is_act_on_field}
use Rattle.jc_facts.specs.client.Linked.{client_outcomes, all_outcomes}
use Rattle.jc_facts.specs.client.Valid.{IsValidClient, is_item_of}
use Rattle.jc_lemmas.proofs.Listed.{EachOf}
use Rattle.jc_link.specs.steps.Asked.{names_no_clinit, asks_no_clinit, asked_of, outcomes_of_asked}

item_no_clinit : (c : ClassFacts) (i : Item) → is_item_of c i ≡ true → names_no_clinit i ≡ true
item_no_clinit c (item.Class t) h = refl
item_no_clinit c (item.New t d) h = refl
item_no_clinit c (item.Init t d) h = refl
item_no_clinit c (item.Assign s t) h = refl
item_no_clinit c (item.Access act t k r place) h = go (is_act_on_field act) (is_init_name k.name) (is_clinit_name k.name) h
  where
    go : (a i l : Bool) → (a || not (i || l)) ≡ true → (a || not l) ≡ true
    go true i l k = refl
    go false true l k = absurd (cc)
    go false false l k = k

items_no_clinit : (c : ClassFacts) (is : List Item) → list_all (is_item_of c) is ≡ true → list_all names_no_clinit is ≡ true
items_no_clinit c [] h = refl
items_no_clinit c (i ∷ is) h = let k = and_parts (is_item_of c i) (list_all (is_item_of c) is) h in rw (item_no_clinit c i k.0, items_no_clinit c is k.1) refl

clients_no_clinit : (cs : List ClientClass) → EachOf IsValidClient cs → list_all asks_no_clinit (map asked_of cs) ≡ true
clients_no_clinit [] h = refl
clients_no_clinit (c ∷ cs) h = rw (items_no_clinit c.facts c.items h.0.items, clients_no_clinit cs h.1) refl

pub all_no_clinit : (cs : List ClientClass) → All IsValidClient cs → IsTrue (list_all asks_no_clinit (map asked_of cs))
all_no_clinit cs h = clients_no_clinit cs (recursion_from_All IsValidClient cs h)

-- what is asked of clients gives their outcomes
pub asked_outcomes : (W : World) (cs : List ClientClass) → outcomes_of_asked W (map asked_of cs) ≡ all_outcomes W cs
unfolding client_outcomes
asked_outcomes W [] = refl
asked_outcomes W (c ∷ cs) = ap (λ (os : List Outcome). client_outcomes W c ++ os) (asked_outcomes W cs)
