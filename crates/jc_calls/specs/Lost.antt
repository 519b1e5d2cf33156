-- What clients lose of their method references.
--     SomeClientLosesHandle O N c k      a client's handle of an act on the key of c was Ok, and isn't
--     EachReferenceIsLost      each reference that is lost is lost by such a client
use Rattle.std.specs.Prelude.{List, ◌≡◌, None, All, Contains, IsTrue, IsFalse}
use Rattle.jc_facts.specs.declared.act.Act.{Act}
use Rattle.jc_facts.specs.declared.client.ClientClass.{ClientClass}
use Rattle.jc_facts.specs.declared.key.Key.{Key}
use Rattle.jc_facts.specs.Names.{Bytes}
use Rattle.jc_facts.specs.world.World.{World, with_clients}
use Rattle.jc_facts.specs.world.Loading.{load_fault}
use Rattle.jc_facts.specs.client.Outcome.{Links}
use Rattle.jc_facts.specs.client.Valid.{facts_of}
use Rattle.jc_promises.specs.client.Scope.{IsInScope}
use Rattle.jc_promises.specs.rule.Bases.{allowed}
use Rattle.jc_complete.specs.Completeness.{CanPlan, LinksWhole, MeetsNothing}
use Rattle.jc_calls.specs.Handles.{handle_item, handle_ok, are_referable}
use Rattle.jc_calls.specs.References.{reference_lost}

-- clients in scope, by allowed names, that link whole with the old release and meet no collision. One of them loads with the new one too, has an act
-- on the key of the class c, which stays Ok. Each method that it may find with the old one is public and no bridge, as javac asks, and its handle was Ok and isn't
pub record SomeClientLosesHandle (O N : World) (c : Bytes) (k : Key) : Type 0 where
  pub clients : List ClientClass
  pub in_scope : IsInScope O N clients
  pub allowed_names : All (λ c. IsTrue (allowed O N c.facts.name)) clients
  pub links : All (LinksWhole (with_clients O (facts_of clients)) clients) clients
  pub meets_nothing : MeetsNothing O N clients
  pub client : ClientClass
  pub is_in : Contains clients client
  pub act : Act
  pub has : Contains client.items (handle_item act c k)
  pub loads_new : load_fault (with_clients N (facts_of clients)) client.facts.name ≡ None
  pub goes_on : Links (with_clients N (facts_of clients)) client.facts.name (handle_item act c k)
  pub referable : IsTrue (are_referable (with_clients O (facts_of clients)) act c k)
  pub was : IsTrue (handle_ok (with_clients O (facts_of clients)) client.facts.name act c k)
  pub lost : IsFalse (handle_ok (with_clients N (facts_of clients)) client.facts.name act c k)

-- Each reference that is lost is one that some client loses.
abbrev pub EachReferenceIsLost : Type 0
EachReferenceIsLost = (O N : World) → CanPlan O N → (c : Bytes) (k : Key) → IsTrue (reference_lost O N c k) → SomeClientLosesHandle O N c k
