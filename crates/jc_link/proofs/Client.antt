-- The outcomes of a client, added to those before.
use Rattle.std.proofs.Common.{◌≡◌, ℕ, List, [], ◌∷◌, ◌++◌, refl, ◌∙◌, ap, Some, None}
use Rattle.std.specs.Prelude.{Err}
use Rattle.std.proofs.lemmas.List.{append_assoc}
use Rattle.jc_facts.specs.declared.client.ClientClass.{ClientClass}
use Rattle.jc_facts.specs.declared.client.Item.{Item}
use Rattle.jc_facts.specs.declared.link_error.LinkError.{LinkError}
use Rattle.jc_facts.specs.declared.outcome.Outcome.{Outcome}
use Rattle.jc_facts.specs.Names.{Bytes}
use Rattle.jc_facts.specs.world.World.{World}
use Rattle.jc_index.specs.Ids.{name_at}
use Rattle.jc_facts.specs.client.Linked.{item_outcomes, client_outcomes, all_outcomes}
use Rattle.jc_link.specs.declared.asked.Asked.{Asked}
use Rattle.jc_link.specs.steps.Asked.{outcomes_of_one}
use Rattle.jc_link.specs.steps.ItemSteps.{IsAt, IsLoaded}
use Rattle.jc_worlds.specs.Alike.{LinkAlike}

pub client_loads : (W : World) (a : Asked) (id : ℕ) (os mid after : List Outcome) → IsAt W a.name id → mid ≡ os ++ record { «class» = a.name; item = None; error = None } ∷ []
    → after ≡ mid ++ item_outcomes W (name_at W id) a.items → after ≡ os ++ outcomes_of_one W a
client_loads W a id os mid after h p q =
    q ∙ ap (λ ms. ms ++ item_outcomes W (name_at W id) a.items) p ∙ append_assoc os (record { «class» = a.name; item = None; error = None } ∷ []) (item_outcomes W (name_at W id) a.items)
    ∙ ap (λ more. os ++ more) (rw (h.name, h.loads) refl)

pub client_fails : (W : World) (a : Asked) (e : LinkError) (os after : List Outcome) → IsLoaded W a.name (Err e) → after ≡ os ++ record { «class» = a.name; item = None; error = Some e } ∷ []
    → after ≡ os ++ outcomes_of_one W a
client_fails W a e os after h p = p ∙ ap (λ more. os ++ more) (rw h refl)

-- ---- worlds that link alike

module _ (W V : World) (a : LinkAlike W V) where
  items_alike : (x : Bytes) (is : List Item) → item_outcomes W x is ≡ item_outcomes V x is
  items_alike x [] = refl
  items_alike x (i ∷ is) = rw (a.items x i, items_alike x is) refl

  client_alike : (c : ClientClass) → client_outcomes W c ≡ client_outcomes V c
  unfolding client_outcomes
  client_alike c = rw (a.loading c.facts.name, items_alike c.facts.name c.items) refl

  pub all_alike : (cs : List ClientClass) → all_outcomes W cs ≡ all_outcomes V cs
  all_alike [] = refl
  all_alike (c ∷ cs) = rw (client_alike c, all_alike cs) refl
