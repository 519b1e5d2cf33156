-- What clients lose by declaring a key with less access.
--     SomeClientIsRefused O N a k      calls of the key by an interface on objects of a client class below a end with IllegalAccessError now
--     EachAccessIsLost      so it is with each key for which a line on access is due
use Rattle.std.specs.Prelude.{List, ◌≡◌, None, Some, All, Contains, IsTrue, IsFalse}
use Rattle.jc_facts.specs.declared.class_facts.Member.{Member}
use Rattle.jc_facts.specs.declared.client.ClientClass.{ClientClass}
use Rattle.jc_facts.specs.declared.key.Key.{Key}
use Rattle.jc_facts.specs.Flags.{public_flag, private_flag, static_flag, abstract_flag, interface_flag}
use Rattle.jc_facts.specs.Names.{Bytes}
use Rattle.jc_facts.specs.world.World.{World, with_clients, own_method_of}
use Rattle.jc_facts.specs.world.Hierarchy.{chain}
use Rattle.jc_facts.specs.world.Loading.{load_fault}
use Rattle.jc_facts.specs.client.Valid.{facts_of}
use Rattle.jc_promises.specs.client.Scope.{IsInScope}
use Rattle.jc_promises.specs.rule.Bases.{allowed, has_init}
use Rattle.jc_complete.specs.Completeness.{CanPlan, LinksWhole, MeetsNothing}
use Rattle.jc_calls.specs.Access.{access_added, is_called_above}
use Rattle.jc_calls.specs.Selected.{IsCalled, called_method, selected}

-- clients in scope, by allowed names, that link whole with the old release and meet no collision. One of them extends a, declares the key as an
-- instance method that is neither public nor private, and loads with both releases. Objects of it can be made: it isn't abstract, and its initializer is
-- public; that its superclass may have abstract methods doesn't hinder this (JVMS 6.5, new). With the old release no superinterface of it declares the key as an
-- instance method that isn't private. With the new one one does, and a call of that on an object of the class selects the class's own method (JVMS 5.4.6),
-- which has a body, but isn't public: IllegalAccessError (JVMS 6.5, invokeinterface)
pub record SomeClientIsRefused (O N : World) (a : Bytes) (k : Key) : Type 0 where
  pub clients : List ClientClass
  pub in_scope : IsInScope O N clients
  pub allowed_names : All (λ c. IsTrue (allowed O N c.facts.name)) clients
  pub links : All (LinksWhole (with_clients O (facts_of clients)) clients) clients
  pub meets_nothing : MeetsNothing O N clients
  pub client : ClientClass
  pub is_in : Contains clients client
  pub below : client.facts.superclass ≡ Some a
  pub class : IsFalse (interface_flag client.facts.flags)
  pub not_abstract : IsFalse (abstract_flag client.facts.flags)
  pub makes_objects : IsTrue (has_init client.facts (λ m. public_flag m.flags))
  pub method : Member
  pub declares : own_method_of client.facts k ≡ Some method
  pub instance : IsFalse (static_flag method.flags)
  pub has_body : IsFalse (abstract_flag method.flags)
  pub not_public : IsFalse (public_flag method.flags)
  pub not_private : IsFalse (private_flag method.flags)
  pub loads_new : load_fault (with_clients N (facts_of clients)) client.facts.name ≡ None
  pub was_none : IsFalse (is_called_above (with_clients O (facts_of clients)) client.facts.name k)
  pub called : IsCalled (with_clients N (facts_of clients)) client.facts.name k
  pub runs : selected k (called_method called) (chain (with_clients N (facts_of clients)) client.facts.name) ≡ Some (record { owner = client.facts.name; member = method })

-- Each access that is added is one by which some client is refused.
abbrev pub EachAccessIsLost : Type 0
EachAccessIsLost = (O N : World) → CanPlan O N → (a : Bytes) (k : Key) → IsTrue (access_added O N a k) → SomeClientIsRefused O N a k
