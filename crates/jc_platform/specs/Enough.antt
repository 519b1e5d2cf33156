-- Which part of a platform is enough for clients.
--     over modules release cs platform      the world of these clients over the platform and the release
--     item_among S i      the item asks for no class but those of the names S
--     IsEnough P Q modules release cs S      the part P of the platform Q has all that these clients lead to, which are the names S
--     LinksTheSame W V cs      the clients link in both worlds alike
use Rattle.std.specs.Prelude.{Bool, true, ◌&&◌, List, Option, None, Some, IsTrue, IsFalse, All, ◌≡◌}
use Rattle.std.specs.List.{Contains, list_all, filter}
use Rattle.jc_facts.specs.declared.class_facts.ClassFacts.{ClassFacts}
use Rattle.jc_facts.specs.declared.client.ClientClass.{ClientClass}
use Rattle.jc_facts.specs.declared.client.Item.{Item}
use Rattle.jc_facts.specs.declared.client.Item.TheVariants as item
use Rattle.jc_facts.specs.Names.{Bytes, object_name}
use Rattle.jc_facts.specs.world.Types.{Element, Primitive, Class, TypeText, type_read, is_array_text}
use Rattle.jc_facts.specs.world.World.{World, Modules, side_in, with_clients, class_named, find_class}
use Rattle.jc_facts.specs.world.Search.{supers}
use Rattle.jc_facts.specs.world.Loading.{load_fault}
use Rattle.jc_facts.specs.client.Allowed.{is_allowed_name}
use Rattle.jc_facts.specs.client.Linked.{outcomes}
use Rattle.jc_facts.specs.client.Outcome.{outcome}
use Rattle.jc_facts.specs.client.Valid.{facts_of}

-- the world of these clients over a platform and a release, in these modules
abbrev pub over : Modules → List ClassFacts → List ClientClass → List ClassFacts → World
over modules release cs platform = with_clients (side_in modules platform release) (facts_of cs)

-- ---- what items ask for

-- the element type is primitive, or a class of one of the names
abbrev pub element_among : (Bytes → Bool) → Element → Bool
element_among S (Primitive p) = true
element_among S (Class c) = S c

-- the same of a type: an ill-formed array asks for no class
abbrev pub type_among : (Bytes → Bool) → Option TypeText → Bool
type_among S None = true
type_among S (Some t) = element_among S t.element

-- the same of a type text (JVMS 4.4.1)
unfoldable pub text_among : (Bytes → Bool) → Bytes → Bool
text_among S t = type_among S (type_read t)

-- the same of a receiver, where its type is known
abbrev pub receiver_among : (Bytes → Bool) → Option Bytes → Bool
receiver_among S None = true
receiver_among S (Some s) = text_among S s

-- the item asks for no class but those of the names. Nothing loads the types of a descriptor (JVMS 5.4.3.2, 5.4.3.3)
abbrev pub item_among : (Bytes → Bool) → Item → Bool
item_among S (item.Class t) = text_among S t
item_among S (item.New t d) = text_among S t
item_among S (item.Init t d) = text_among S t
item_among S (item.Access act t k r place) = text_among S t && receiver_among S r
item_among S (item.Assign s t) = text_among S s && text_among S t

-- ---- a part

-- the part P of the platform Q is enough for these clients: it has the whole's classes of the names S, to which the clients, their items and all above
-- them lead
pub record IsEnough (P Q : List ClassFacts) (modules : Modules) (release : List ClassFacts) (cs : List ClientClass) (S : Bytes → Bool) : Type 0 where
  -- each class of the part is one of the whole
  pub part : All (Contains Q) P
  -- of each of the names both have the same class, or none
  pub same : (x : Bytes) → S x ≡ true → class_named P x ≡ class_named Q x
  -- each interface call asks it (JVMS 5.4.3.4)
  pub root : IsTrue (S object_name)
  -- the names are those of the clients, which are no arrays'
  pub clients : All (λ c. IsTrue (S c.facts.name) × IsFalse (is_array_text c.facts.name)) cs
  -- and those that their items ask for
  pub items : All (λ c. IsTrue (list_all (item_among S) c.items)) cs
  -- and the superclass and the interfaces that a class of one of them names, be it the platform's, the release's or a client (JVMS 4.1)
  pub closed : (x : Bytes) (c : ClassFacts) → S x ≡ true → find_class (over modules release cs Q) x ≡ Some c → All (λ s. S s ≡ true) (supers c)
  -- the whole allows the clients' names: it has no class of their packages, which the part could lack
  pub allowed : All (λ c. IsTrue (is_allowed_name (side_in modules Q release) c.facts.name)) cs

-- ---- laws

-- each of the clients has one load fault in both worlds, and each of its items one outcome
pub record LinksTheSame (W V : World) (cs : List ClientClass) : Type 0 where
  pub loading : All (λ c. load_fault W c.facts.name ≡ load_fault V c.facts.name) cs
  pub items : All (λ c. All (λ i. outcome W c.facts.name i ≡ outcome V c.facts.name i) c.items) cs

-- over a part that is enough clients link as over the whole, so that all that is said of them is the same
abbrev pub EnoughLinksAlike : Type 0
EnoughLinksAlike = (P Q : List ClassFacts) (modules : Modules) (release : List ClassFacts) (cs : List ClientClass) (S : Bytes → Bool) → IsEnough P Q modules release cs S
    → LinksTheSame (over modules release cs P) (over modules release cs Q) cs
    × (outcomes (side_in modules P release) cs ≡ outcomes (side_in modules Q release) cs)

-- what is asked of a platform before clients are linked: its java/lang/Object, whether the release declares one of its names, whether the clients' names are allowed
pub record AllowsTheSame (P Q : List ClassFacts) (modules : Modules) (release : List ClassFacts) (cs : List ClientClass) : Type 0 where
  pub root : class_named P object_name ≡ class_named Q object_name
  pub apart : (x : Bytes) → class_named Q x ≡ None → class_named P x ≡ None
  pub allowed : All (λ c. IsTrue (is_allowed_name (side_in modules P release) c.facts.name)) cs

-- a part that is enough is refused for nothing for which the whole isn't
abbrev pub EnoughAllows : Type 0
EnoughAllows = (P Q : List ClassFacts) (modules : Modules) (release : List ClassFacts) (cs : List ClientClass) (S : Bytes → Bool) → IsEnough P Q modules release cs S
    → AllowsTheSame P Q modules release cs

-- where the names lead to no others, those of the whole's classes that have them are enough
abbrev pub NamedAreEnough : Type 0
NamedAreEnough = (Q : List ClassFacts) (modules : Modules) (release : List ClassFacts) (cs : List ClientClass) (S : Bytes → Bool) → IsEnough Q Q modules release cs S
    → IsEnough (filter (λ c. S c.name) Q) Q modules release cs S
