-- Sight, which is wider than reach, and what is kept of it.
--     is_in_sight O cs x i      over the old side O with the clients cs, the classes that the item asks of its types load, and x may name each, or it
--                               is a client or exposed to the seat of a client that loads
use Rattle.std.specs.Prelude.{Bool, true, List, Option, None, Some, ◌||◌, ◌&&◌, ◌≡◌, IsTrue}
use Rattle.std.specs.List.{list_any, Contains}
use Rattle.jc_facts.specs.declared.class_facts.ClassFacts.{ClassFacts}
use Rattle.jc_facts.specs.declared.client.ClientClass.{ClientClass}
use Rattle.jc_facts.specs.declared.client.Item.{Item}
use Rattle.jc_facts.specs.declared.client.Item.TheVariants as item
use Rattle.jc_facts.specs.declared.verdict.Collision.{Collision}
use Rattle.jc_facts.specs.Names.{Bytes, same}
use Rattle.jc_facts.specs.Options.{some_and}
use Rattle.jc_facts.specs.world.Types.{Element, Primitive, Class, TypeText, type_read}
use Rattle.jc_facts.specs.world.World.{World, find_class, with_clients, is_client}
use Rattle.jc_promises.specs.Pairs.{IsPair}
use Rattle.jc_facts.specs.world.Access.{is_class_accessible}
use Rattle.jc_facts.specs.world.Loading.{load_fault, loads}
use Rattle.jc_facts.specs.client.Outcome.{Links}
use Rattle.jc_promises.specs.client.Scope.{IsInScope}
use Rattle.jc_facts.specs.client.Valid.{facts_of}
use Rattle.jc_promises.specs.client.Reach.{is_invoke_interface, is_interface_type, is_in_reach}
use Rattle.jc_facts.specs.client.Seats.{seat}
use Rattle.jc_promises.specs.client.Meets.{Meets}
use Rattle.jc_promises.specs.rule.Findings.{Subject, finding_at}
use Rattle.jc_promises.specs.rule.Collisions.{CollisionStands}
use Rattle.jc_promises.specs.rule.Exposed.{is_exposed}

-- the client y loads, and the class c is hidden and a member exposes it to the seat of y
abbrev pub is_shown_to : World → World → Bytes → ClassFacts → Bool
is_shown_to O W c y = loads W y.name && some_and (λ a. is_exposed O a c) (seat W y.name)

-- the class loads, and is accessible from the client x, or is a client, or is hidden and exposed to the seat of a client that loads
abbrev pub class_in_sight : World → List ClassFacts → Bytes → Bytes → Bool
class_in_sight O cs x c = let W = with_clients O cs in
    loads W c && (some_and (is_class_accessible W x) (find_class W c) || (is_client W c || list_any (is_shown_to O W c) cs))

-- the same of an element type: a primitive one always is
abbrev pub element_in_sight : World → List ClassFacts → Bytes → Element → Bool
element_in_sight O cs x (Primitive p) = true
element_in_sight O cs x (Class c) = class_in_sight O cs x c

-- the same of a type: an ill-formed array names no class
abbrev pub text_in_sight : World → List ClassFacts → Bytes → Option TypeText → Bool
text_in_sight O cs x None = true
text_in_sight O cs x (Some a) = element_in_sight O cs x a.element

-- the same of the type that a text describes
unfoldable pub type_in_sight : World → List ClassFacts → Bytes → Bytes → Bool
type_in_sight O cs x t = text_in_sight O cs x (type_read t)

-- the same of a receiver: one that isn't known is in sight
abbrev pub receiver_in_sight : World → List ClassFacts → Bytes → Option Bytes → Bool
receiver_in_sight O cs x None = true
receiver_in_sight O cs x (Some s) = type_in_sight O cs x s

-- each class that the receiver and the types of an assignment name is in sight of x, whatever items x has; nothing is asked where reach asks nothing
abbrev pub is_in_sight : World → List ClassFacts → Bytes → Item → Bool
is_in_sight O cs x (item.Access act t k r place) = receiver_in_sight O cs x r || is_invoke_interface act
is_in_sight O cs x (item.Assign s t) = same s t || (type_in_sight O cs x t && (type_in_sight O cs x s || is_interface_type (with_clients O cs) t))
is_in_sight O cs x i = true

-- What is in reach of a client in scope that loads is in sight of it.
abbrev pub ReachIsInSight : Type 0
ReachIsInSight = (O N : World) (cs : List ClientClass) → IsPair O N → IsInScope O N cs
    → (c : ClientClass) (i : Item) → Contains cs c → load_fault (with_clients O (facts_of cs)) c.facts.name ≡ None
    → IsTrue (is_in_reach (with_clients O (facts_of cs)) c.facts.name cs i) → IsTrue (is_in_sight O (facts_of cs) c.facts.name i)

-- Where no rule stands anywhere and no collision that stands is met, each item in sight that is Ok with the old release is Ok with the new.
abbrev pub SoundnessInSight : Type 0
SoundnessInSight = (O N : World) (cs : List ClientClass) → IsPair O N → ((s : Subject) → finding_at O N s ≡ None)
    → IsInScope O N cs → ((c : Collision) → CollisionStands O N c → ¬ (Meets (with_clients O (facts_of cs)) cs c))
    → (c : ClientClass) (i : Item) → Contains cs c → load_fault (with_clients O (facts_of cs)) c.facts.name ≡ None → Contains c.items i
    → IsTrue (is_in_sight O (facts_of cs) c.facts.name i)
    → Links (with_clients O (facts_of cs)) c.facts.name i → Links (with_clients N (facts_of cs)) c.facts.name i
