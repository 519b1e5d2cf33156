-- What clients that declare keys with less access keep, where no line on access is due.
--     AccessKept O N cs      a call that a client's method refuses now was refused before, or the key was public above the client
--     AccessStays      so it is where the verdict has no finding and no line on access is due
-- The call is one by an interface that stands above the client's seat. Of interfaces that clients name themselves it isn't so: one of those may get the method of
-- which the client's class has one with less access. Nor is it where the seat's chain had the key as a public method: a client's method of it with less access is
-- none that javac compiles.
use Rattle.std.specs.Prelude.{false, List, [], ◌≡◌, None, Some, All, Contains, IsTrue, IsFalse, ◌⊎◌}
use Rattle.jc_facts.specs.declared.client.ClientClass.{ClientClass}
use Rattle.jc_facts.specs.declared.key.Key.{Key}
use Rattle.jc_facts.specs.declared.verdict.Verdict.{Verdict}
use Rattle.jc_facts.specs.Flags.{interface_flag}
use Rattle.jc_facts.specs.Names.{Bytes}
use Rattle.jc_facts.specs.world.World.{World, with_clients}
use Rattle.jc_facts.specs.world.Loading.{load_fault}
use Rattle.jc_facts.specs.client.Seats.{seat}
use Rattle.jc_facts.specs.client.Valid.{facts_of}
use Rattle.jc_promises.specs.Pairs.{IsPair}
use Rattle.jc_promises.specs.client.Meets.{Meets}
use Rattle.jc_promises.specs.client.Scope.{IsInScope}
use Rattle.jc_promises.specs.rule.Bases.{is_key_of_method}
use Rattle.jc_promises.specs.rule.Verdict.{IsVerdict}
use Rattle.jc_calls.specs.Access.{access_added, is_public_in_chain}
use Rattle.jc_calls.specs.Selected.{IsRefused}

-- no line on access is due
abbrev pub AddNoAccess : World → World → Type 0
AddNoAccess O N = (a : Bytes) (k : Key) → access_added O N a k ≡ false

-- of each client class of the seat a that loads with the old release, and each method key: what is refused was, or the chain of a had the key as public
abbrev pub AccessKept : World → World → List ClientClass → Type 0
AccessKept O N cs =
    let before = with_clients O (facts_of cs) in
    let after = with_clients N (facts_of cs) in
    (c : ClientClass) (a : Bytes) (k : Key) → Contains cs c → IsFalse (interface_flag c.facts.flags) → load_fault before c.facts.name ≡ None → seat before c.facts.name ≡ Some a
    → IsTrue (is_key_of_method k) → IsRefused after N c.facts.name a k → IsRefused before O c.facts.name a k ⊎ IsTrue (is_public_in_chain O a k)

-- where the verdict has no finding and no line on access is due, so it is in each client world in scope that meets none of the collisions
abbrev pub AccessStays : Type 0
AccessStays = (O N : World) (v : Verdict) → IsPair O N → IsVerdict O N v → v.findings ≡ [] → AddNoAccess O N → (cs : List ClientClass) → IsInScope O N cs
    → All (λ c. ¬ (Meets (with_clients O (facts_of cs)) cs c)) v.collisions → AccessKept O N cs
