-- What clients keep of their method references, where none is lost.
--     ReferencesKept O N cs      each handle that javac makes for the clients and that was Ok, named through a class of a library, is Ok
--     ReferencesStay      so it is where the verdict has no finding and no reference is lost
-- Of a reference to a method that isn't public, as a protected one of a superclass in another package, of one by a bridge, and of super::m, which invokespecial calls, javac
-- makes a lambda. That calls the method, so no handle has to be taken apart but the lambda's own.
-- Of handles named through a client's own class it isn't so: what such a one finds depends on the interfaces that the client names beside, and a
-- public method that a package-private superclass of the library gets anew stands before that of a client's interface, breaks the handle, and is
-- no reference that the library's clients had.
use Rattle.std.specs.Prelude.{false, List, [], ◌≡◌, None, All, Contains, IsTrue, IsFalse}
use Rattle.jc_facts.specs.declared.act.Act.{Act}
use Rattle.jc_facts.specs.declared.client.ClientClass.{ClientClass}
use Rattle.jc_facts.specs.declared.key.Key.{Key}
use Rattle.jc_facts.specs.declared.verdict.Verdict.{Verdict}
use Rattle.jc_facts.specs.Names.{Bytes}
use Rattle.jc_facts.specs.world.World.{World, with_clients, is_client}
use Rattle.jc_facts.specs.world.Loading.{load_fault}
use Rattle.jc_facts.specs.client.Valid.{facts_of}
use Rattle.jc_promises.specs.Pairs.{IsPair}
use Rattle.jc_promises.specs.client.Meets.{Meets}
use Rattle.jc_promises.specs.client.Scope.{IsInScope}
use Rattle.jc_promises.specs.rule.Verdict.{IsVerdict}
use Rattle.jc_promises.specs.rule.OpenActs.{method_acts}
use Rattle.jc_calls.specs.Handles.{handle_item, handle_ok, are_referable}
use Rattle.jc_calls.specs.References.{reference_lost}

-- no reference is lost
abbrev pub LoseNoReference : World → World → Type 0
LoseNoReference O N = (c : Bytes) (k : Key) → reference_lost O N c k ≡ false

-- each handle of an act on a method, one of four, that a client which loads has, named through a class that is no client, is Ok with the new release where
-- it is Ok with the old one, and all that it may find there is public and no bridge
abbrev pub ReferencesKept : World → World → List ClientClass → Type 0
ReferencesKept O N cs =
    let before = with_clients O (facts_of cs) in
    let after = with_clients N (facts_of cs) in
    (c : ClientClass) (what : Act) (t : Bytes) (k : Key) → Contains cs c → load_fault before c.facts.name ≡ None → Contains c.items (handle_item what t k)
    → Contains method_acts what → IsFalse (is_client before t) → IsTrue (are_referable before what t k) → IsTrue (handle_ok before c.facts.name what t k) → IsTrue (handle_ok after c.facts.name what t k)

-- where the verdict has no finding and no reference is lost, so it is in each client world in scope that meets none of the collisions
abbrev pub ReferencesStay : Type 0
ReferencesStay = (O N : World) (v : Verdict) → IsPair O N → IsVerdict O N v → v.findings ≡ [] → LoseNoReference O N → (cs : List ClientClass) → IsInScope O N cs
    → All (λ c. ¬ (Meets (with_clients O (facts_of cs)) cs c)) v.collisions → ReferencesKept O N cs
