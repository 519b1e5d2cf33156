-- What clients lose where their values meet.
--     SomeClientIsParted O N x t      values of x and of another class met at t in a client, which is refused now
--     EachJoinIsLost      so it is with each superclass that is lost
use Rattle.std.specs.Prelude.{Bool, [], ◌∷◌, ◌≡◌, ◌||◌, ◌&&◌, None, Some, All, Contains, IsTrue}
use Rattle.jc_facts.specs.declared.client.ClientClass.{ClientClass}
use Rattle.jc_facts.specs.declared.client.Item.{Item}
use Rattle.jc_facts.specs.declared.client.Item.TheVariants as item
use Rattle.jc_facts.specs.declared.link_error.LinkError.TheVariants.{VerifyError}
use Rattle.jc_facts.specs.Names.{Bytes, same}
use Rattle.jc_facts.specs.client.Outcome.{Links, outcome}
use Rattle.jc_facts.specs.client.Valid.{facts_of}
use Rattle.jc_facts.specs.world.Loading.{load_fault}
use Rattle.jc_facts.specs.world.World.{World, with_clients}
use Rattle.jc_promises.specs.client.Reach.{class_in_reach, is_in_reach}
use Rattle.jc_promises.specs.client.Scope.{IsInScope}
use Rattle.jc_promises.specs.rule.Bases.{allowed}
use Rattle.jc_complete.specs.Completeness.{CanPlan, MeetsNothing}
use Rattle.jc_calls.specs.Joins.{is_join, join_lost}

-- the client holds values of the class itself: it may name the class, or opens it by an item of its own
abbrev pub holds : World → ClientClass → Bytes → Bool
holds W c x = class_in_reach W c.facts.name (c ∷ []) x

-- the item of the client is in reach, or assigns to t what the client holds
abbrev pub is_reached : World → ClientClass → Bytes → Item → Bool
is_reached W c t (item.Assign s u) = is_in_reach W c.facts.name (c ∷ []) (item.Assign s u) || (same u t && holds W c s)
is_reached W c t i = is_in_reach W c.facts.name (c ∷ []) i

-- the client loads, and all its items are so and Ok
abbrev pub LinksTo : World → Bytes → ClientClass → Type 0
LinksTo W t c = (load_fault W c.facts.name ≡ None) × All (λ i. IsTrue (is_reached W c t i) × Links W c.facts.name i) c.items

-- a client in scope, of an allowed name, that links with the old release and meets no collision. It holds values of x and of another class, whose chains
-- first meet at t, and assigns both to t. With the new release it loads, and x isn't assignable to t
pub record SomeClientIsParted (O N : World) (x t : Bytes) : Type 0 where
  pub client : ClientClass
  pub in_scope : IsInScope O N (client ∷ [])
  pub allowed_name : IsTrue (allowed O N client.facts.name)
  pub links : LinksTo (with_clients O (facts_of (client ∷ []))) t client
  pub meets_nothing : MeetsNothing O N (client ∷ [])
  pub other : Bytes
  pub holds_it : IsTrue (holds (with_clients O (facts_of (client ∷ []))) client x)
  pub holds_other : IsTrue (holds (with_clients O (facts_of (client ∷ []))) client other)
  pub join : IsTrue (is_join (with_clients O (facts_of (client ∷ []))) x other t)
  pub assigns_it : Contains client.items (item.Assign x t)
  pub assigns_other : Contains client.items (item.Assign other t)
  pub loads_new : load_fault (with_clients N (facts_of (client ∷ []))) client.facts.name ≡ None
  pub refused : outcome (with_clients N (facts_of (client ∷ []))) client.facts.name (item.Assign x t) ≡ Some VerifyError

-- Each superclass that is lost is one by which some client is refused.
abbrev pub EachJoinIsLost : Type 0
EachJoinIsLost = (O N : World) → CanPlan O N → (x t : Bytes) → IsTrue (join_lost O N x t) → SomeClientIsParted O N x t
