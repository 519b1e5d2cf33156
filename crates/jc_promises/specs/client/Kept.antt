-- What the rules on classes and types keep, and what a class that is gone breaks.
--     KeepsTypes O N cs      the new side N keeps the loads, the named classes and the assignments of these clients
--     BreaksClass O N x e      whatever clients there are, naming the class x is Ok with the old side O, and has this error with the new
use Rattle.std.specs.Prelude.{List, [], ◌||◌, not, None, Some, IsTrue, ◌≡◌}
use Rattle.std.specs.List.{All, Contains}
use Rattle.jc_facts.specs.declared.class_facts.Member.{Member}
use Rattle.jc_facts.specs.declared.client.ClientClass.{ClientClass}
use Rattle.jc_facts.specs.declared.client.Item.TheVariants as item
use Rattle.jc_facts.specs.declared.link_error.LinkError.{LinkError}
use Rattle.jc_facts.specs.Names.{Bytes}
use Rattle.jc_desc.specs.Names.{is_init_name, is_clinit_name}
use Rattle.jc_facts.specs.world.World.{World, with_clients}
use Rattle.jc_facts.specs.world.Loading.{load_fault}
use Rattle.jc_facts.specs.client.Outcome.{outcome, Links}
use Rattle.jc_promises.specs.client.Scope.{IsInScope}
use Rattle.jc_facts.specs.client.Valid.{facts_of}
use Rattle.jc_promises.specs.client.Reach.{is_in_reach}
use Rattle.jc_facts.specs.world.Inheritance.{is_inheritable}

-- each method of the clients is an initializer, static or private: no class below could override by it
abbrev pub DeclareNone : List ClientClass → Type 0
DeclareNone cs = All (λ c. All (λ (m : Member). IsTrue (is_init_name m.name || is_clinit_name m.name || not (is_inheritable m))) c.facts.methods) cs

-- each client that loads with the old side loads with the new, and each class that it names and each assignment that is in reach by what it may
-- name and is Ok with the old side is Ok with the new
pub record KeepsTypes (O N : World) (cs : List ClientClass) : Type 0 where
  pub loading : (c : ClientClass) → Contains cs c → load_fault (with_clients O (facts_of cs)) c.facts.name ≡ None
      → load_fault (with_clients N (facts_of cs)) c.facts.name ≡ None
  pub classes : (c : ClientClass) → Contains cs c → (t : Bytes) → Links (with_clients O (facts_of cs)) c.facts.name (item.Class t)
      → Links (with_clients N (facts_of cs)) c.facts.name (item.Class t)
  pub assignments : (c : ClientClass) → Contains cs c → (s t : Bytes) → IsTrue (is_in_reach (with_clients O (facts_of cs)) c.facts.name [] (item.Assign s t))
      → Links (with_clients O (facts_of cs)) c.facts.name (item.Assign s t) → Links (with_clients N (facts_of cs)) c.facts.name (item.Assign s t)

-- whatever client world in scope there is, each client's naming of the class is Ok with the old side, and has this error with the new
abbrev pub BreaksClass : World → World → Bytes → LinkError → Type 0
BreaksClass O N x e = (cs : List ClientClass) → IsInScope O N cs → (c : ClientClass) → Contains cs c
    → Links (with_clients O (facts_of cs)) c.facts.name (item.Class x) × (outcome (with_clients N (facts_of cs)) c.facts.name (item.Class x) ≡ Some e)
