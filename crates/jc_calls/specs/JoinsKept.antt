-- What clients keep of the superclasses where their values meet, where none is lost.
--     JoinsKept O N cs      what the clients of a seat hold, and met at a class that they can't name, is assignable to that
--     JoinsStay      so it is where the verdict has no finding and no such superclass is lost
-- What is held is told from the client's own seat. Of two classes that are held by the clients of two seats, one by each, nothing is said, as where a
-- client hands a value to another whose seat is a different one. Nor of interfaces that clients can't name, where values meet whose classes have no
-- superclass but java/lang/Object: javac writes the interface then, to which all is assignable as long as it is one.
use Rattle.std.specs.Prelude.{ℕ, Bool, false, List, [], ◌≡◌, ◌||◌, ◌&&◌, None, Some, All, Contains, IsTrue}
use Rattle.std.specs.List.{list_any}
use Rattle.jc_facts.specs.declared.client.ClientClass.{ClientClass}
use Rattle.jc_facts.specs.declared.client.Item.TheVariants as item
use Rattle.jc_facts.specs.declared.verdict.Verdict.{Verdict}
use Rattle.jc_facts.specs.Names.{Bytes}
use Rattle.jc_facts.specs.client.Outcome.{Links}
use Rattle.jc_facts.specs.client.Seats.{seat}
use Rattle.jc_facts.specs.client.Valid.{facts_of}
use Rattle.jc_facts.specs.world.Loading.{load_fault, loads}
use Rattle.jc_facts.specs.world.Types.{Class, type_read}
use Rattle.jc_facts.specs.world.World.{World, classes, with_clients, is_client}
use Rattle.jc_promises.specs.Pairs.{IsPair}
use Rattle.jc_promises.specs.client.Meets.{Meets}
use Rattle.jc_promises.specs.client.Scope.{IsInScope}
use Rattle.jc_promises.specs.rule.Bases.{is_class_usable}
use Rattle.jc_promises.specs.rule.Exposed.{is_exposed, is_hidden}
use Rattle.jc_promises.specs.rule.Verdict.{IsVerdict}
use Rattle.jc_calls.specs.Joins.{is_join, join_lost}

-- no join is lost
abbrev pub LoseNoJoin : World → World → Type 0
LoseNoJoin O N = (x t : Bytes) → join_lost O N x t ≡ false

-- in the world V of clients of the side O: a client that loads, a class that each client can use, or one that a member exposes to the seat a
abbrev pub is_held : World → World → Bytes → Bytes → Bool
is_held V O a x = (is_client V x && loads V x) || is_class_usable O x || is_exposed O a x

-- values of the class x and of another one, both held, meet at t
abbrev pub meet_at : World → World → Bytes → Bytes → Bytes → Bool
meet_at V O a x t = is_held V O a x && list_any (λ y. is_held V O a y.name && is_join V x y.name t) (classes V)

-- the text is that of the class, or of an array of it of so many dimensions
abbrev pub IsArrayOf : ℕ → Bytes → Bytes → Type 0
IsArrayOf dims x s = type_read s ≡ Some (record { dims = dims; element = Class x })

-- of each client of the seat a that loads, and of each class x whose values meet others at a class t that clients can't name: objects of x are assignable
-- to t, and arrays of the one to those of the other
abbrev pub JoinsKept : World → World → List ClientClass → Type 0
JoinsKept O N cs =
    let before = with_clients O (facts_of cs) in
    let after = with_clients N (facts_of cs) in
    (c : ClientClass) (a x t : Bytes) (dims : ℕ) (s u : Bytes) → Contains cs c → load_fault before c.facts.name ≡ None → seat before c.facts.name ≡ Some a
    → IsTrue (is_hidden O t) → IsTrue (meet_at before O a x t) → IsArrayOf dims x s → IsArrayOf dims t u → Links after c.facts.name (item.Assign s u)

-- where the verdict has no finding and no join is lost, so it is in each client world in scope that meets none of the collisions
abbrev pub JoinsStay : Type 0
JoinsStay = (O N : World) (v : Verdict) → IsPair O N → IsVerdict O N v → v.findings ≡ [] → LoseNoJoin O N → (cs : List ClientClass) → IsInScope O N cs
    → All (λ c. ¬ (Meets (with_clients O (facts_of cs)) cs c)) v.collisions → JoinsKept O N cs
