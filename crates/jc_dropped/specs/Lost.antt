-- What clients lose where a class drops an interface.
--     Loses O N cs c x t      to the client c a value of the class x is one of the interface t with the old release, and isn't with the new
--     EachDroppedIsLost, EachLossIsListed      a class drops an interface exactly where some client in scope loses one
-- Whatever a client does with such a value still links, so no outcome tells of it. A virtual machine asks at run time whether the class of the value has
-- the interface: where it no longer has it, checkcast throws ClassCastException, aastore ArrayStoreException and invokeinterface
-- IncompatibleClassChangeError, and instanceof gives 0 (JVMS 6.5).
use Rattle.std.specs.Prelude.{List, [], ◌∷◌, ◌≡◌, ◌⊎◌, None, All, Contains, IsTrue, IsFalse}
use Rattle.jc_facts.specs.declared.client.ClientClass.{ClientClass}
use Rattle.jc_facts.specs.declared.client.Item.TheVariants as item
use Rattle.jc_facts.specs.declared.dropped.Dropped.{Dropped}
use Rattle.jc_facts.specs.declared.verdict.Verdict.{Verdict}
use Rattle.jc_facts.specs.Names.{Bytes}
use Rattle.jc_facts.specs.world.World.{World, with_clients}
use Rattle.jc_facts.specs.world.Hierarchy.{is_superinterface}
use Rattle.jc_facts.specs.world.Assignment.{is_interface_of}
use Rattle.jc_facts.specs.world.Loading.{load_fault}
use Rattle.jc_facts.specs.client.Outcome.{Links}
use Rattle.jc_facts.specs.client.Valid.{facts_of}
use Rattle.jc_promises.specs.Pairs.{IsPair}
use Rattle.jc_promises.specs.client.Scope.{IsInScope}
use Rattle.jc_promises.specs.client.Reach.{class_in_reach}
use Rattle.jc_promises.specs.client.Meets.{Meets}
use Rattle.jc_promises.specs.rule.Bases.{allowed}
use Rattle.jc_promises.specs.rule.Verdict.{IsVerdict}
use Rattle.jc_complete.specs.Completeness.{CanPlan, LinksWhole, MeetsNothing}
use Rattle.jc_dropped.specs.Dropped.{is_dropped, AreDropped}

-- the client may name the class t with both releases
pub record MayName (O N : World) (cs : List ClientClass) (c : ClientClass) (t : Bytes) : Type 0 where
  pub old : Links (with_clients O (facts_of cs)) c.facts.name (item.Class t)
  pub new : Links (with_clients N (facts_of cs)) c.facts.name (item.Class t)

-- the client itself hands values of x over where t is asked for: with the old release it may name or opens each of the two classes, and one of its
-- items assigns x to t, which is Ok with both
pub record HandsOver (O N : World) (cs : List ClientClass) (c : ClientClass) (x t : Bytes) : Type 0 where
  pub holds : IsTrue (class_in_reach (with_clients O (facts_of cs)) c.facts.name (c ∷ []) x)
  pub takes : IsTrue (class_in_reach (with_clients O (facts_of cs)) c.facts.name (c ∷ []) t)
  pub is_in : Contains c.items (item.Assign x t)
  pub old : Links (with_clients O (facts_of cs)) c.facts.name (item.Assign x t)
  pub new : Links (with_clients N (facts_of cs)) c.facts.name (item.Assign x t)

-- the client loads with both releases. With the old one it holds values of the class x: the class loads, and the client may name it, or a
-- client opens it; and x loads with the new one too. It may name t, an interface, with both, or hands values of x over where t is asked for. With
-- the old release t is a superinterface of x, and with the new one it isn't
pub record Loses (O N : World) (cs : List ClientClass) (c : ClientClass) (x t : Bytes) : Type 0 where
  pub is_in : Contains cs c
  pub loads_old : load_fault (with_clients O (facts_of cs)) c.facts.name ≡ None
  pub loads_new : load_fault (with_clients N (facts_of cs)) c.facts.name ≡ None
  pub holds : IsTrue (class_in_reach (with_clients O (facts_of cs)) c.facts.name cs x)
  pub stays : load_fault (with_clients N (facts_of cs)) x ≡ None
  pub asks : MayName O N cs c t ⊎ HandsOver O N cs c x t
  pub interface_old : IsTrue (is_interface_of (with_clients O (facts_of cs)) t)
  pub interface_new : IsTrue (is_interface_of (with_clients N (facts_of cs)) t)
  pub had : IsTrue (is_superinterface (with_clients O (facts_of cs)) x t)
  pub lost : IsFalse (is_superinterface (with_clients N (facts_of cs)) x t)

-- some client loses it: of clients in scope, by allowed names, that link whole with the old release and meet no collision
pub record SomeClientLoses (O N : World) (x t : Bytes) : Type 0 where
  pub clients : List ClientClass
  pub in_scope : IsInScope O N clients
  pub allowed_names : All (λ c. IsTrue (allowed O N c.facts.name)) clients
  pub links : All (LinksWhole (with_clients O (facts_of clients)) clients) clients
  pub meets_nothing : MeetsNothing O N clients
  pub client : ClientClass
  pub loses : Loses O N clients client x t

-- Each interface that a class drops is one that some client loses.
abbrev pub EachDroppedIsLost : Type 0
EachDroppedIsLost = (O N : World) → CanPlan O N → (x t : Bytes) → IsTrue (is_dropped O N x t) → SomeClientLoses O N x t

-- And where the verdict has no finding: if a client in scope loses an interface, and none of the collisions is met, some class is listed with it.
abbrev pub EachLossIsListed : Type 0
EachLossIsListed = (O N : World) (v : Verdict) (ds : List Dropped) → IsPair O N → IsVerdict O N v → v.findings ≡ [] → AreDropped O N ds
    → (cs : List ClientClass) → IsInScope O N cs → All (λ c. ¬ (Meets (with_clients O (facts_of cs)) cs c)) v.collisions
    → (c : ClientClass) (x t : Bytes) → Loses O N cs c x t → (d : Dropped) × Contains ds d × (d.interface ≡ t)
