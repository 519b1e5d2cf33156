-- Warnings that a client shows: one class of it answered a key as far as it was due to it, and with the new release it doesn't.
--     due_below W b k, answered_below W b k      the key is due to a class directly below the base b that declares nothing of it, and answered by it
--     can_stop O N b k      such a class stops answering the key
--     Stops O N cs y k      the client class y does
--     SomeClientStops O N b k      some client class directly below the base b does
--     IsSameAbove O N b      nothing above the base b changed
use Rattle.std.specs.Prelude.{Bool, not, cond, List, [], ◌∷◌, ◌++◌, ◌||◌, ◌&&◌, ◌≡◌, None, Some, All, Contains, IsTrue, IsFalse}
use Rattle.std.specs.List.{list_any, filter}
use Rattle.jc_facts.specs.declared.class_facts.ClassFacts.{ClassFacts}
use Rattle.jc_facts.specs.declared.client.ClientClass.{ClientClass}
use Rattle.jc_facts.specs.declared.key.Key.{Key}
use Rattle.jc_facts.specs.declared.warning.ChainKind.{ChainKind}
use Rattle.jc_facts.specs.declared.warning.ChainKind.TheVariants.{Nothing, Abstract, Concrete}
use Rattle.jc_facts.specs.declared.warning.Warning.{Warning}
use Rattle.jc_facts.specs.declared.warning.WarnKind.TheVariants as warn
use Rattle.jc_facts.specs.Names.{Bytes, is_name_among, same, object_name}
use Rattle.jc_facts.specs.Flags.{interface_flag}
use Rattle.jc_facts.specs.Options.{some_and}
use Rattle.jc_facts.specs.world.World.{World, DeclaredMember, with_clients, own_method_of}
use Rattle.jc_facts.specs.world.Hierarchy.{chain, superinterfaces}
use Rattle.jc_facts.specs.world.Lookup.{declared_by, is_maximal, is_concrete}
use Rattle.jc_facts.specs.world.Assignment.{is_interface_of}
use Rattle.jc_facts.specs.world.Loading.{load_fault}
use Rattle.jc_facts.specs.client.Valid.{facts_of}
use Rattle.jc_promises.specs.client.Scope.{IsInScope}
use Rattle.jc_promises.specs.rule.Bases.{allowed}
use Rattle.jc_promises.specs.rule.Selection.{first_kind, chain_kind, declares_abstract, are_one, answers, is_due, is_answered}
use Rattle.jc_promises.specs.rule.Warnings.{is_base, interfaces_from, warning_at, WarningStands}
use Rattle.jc_complete.specs.Completeness.{CanPlan, LinksWhole}

-- ---- below a base

-- the maximally specific methods of the key that these interfaces declare, as far as they aren't abstract (JVMS 5.4.3.3)
abbrev pub choices_among : World → Key → List ClassFacts → List DeclaredMember
choices_among W k is =
    let all = declared_by k is in
    filter is_concrete (filter (is_maximal W all) all)

-- the superclass of a class directly below the base b: b, or java/lang/Object, where b is an interface
abbrev pub super_below : World → Bytes → Bytes
super_below W b = cond (is_interface_of W b) object_name b

-- and the interfaces that such a class names, where it names no others
abbrev pub named_below : World → Bytes → List Bytes
named_below W b = cond (is_interface_of W b) (b ∷ []) []

-- what the chain of such a class has of the key, where the class itself declares nothing of it
abbrev pub kind_below : World → Bytes → Key → ChainKind
kind_below W b k = first_kind k (chain W (super_below W b))

-- the key is due to such a class
unfoldable pub due_below : World → Bytes → Key → Bool
due_below W b k = list_any (declares_abstract k) (chain W (super_below W b) ++ interfaces_from W b)

-- and it answers it
unfoldable pub answered_below : World → Bytes → Key → Bool
answered_below W b k = answers (kind_below W b k) (are_one (choices_among W k (interfaces_from W b)))

-- it doesn't answer the key any more, and did, or the key wasn't due to it and is now
abbrev pub can_stop : World → World → Bytes → Key → Bool
can_stop O N b k = not (answered_below N b k) && (answered_below O b k || (not (due_below O b k) && due_below N b k))

-- ---- clients

-- the client class loads with both releases. With the old one it answers the key where that is due to it; with the new one the key is due
-- to it, and a call of it on an object of the class runs no method (JVMS 5.4.6; 6.5: AbstractMethodError, or IncompatibleClassChangeError)
pub record Stops (O N : World) (cs : List ClientClass) (y : ClientClass) (k : Key) : Type 0 where
  pub is_in : Contains cs y
  pub class : IsFalse (interface_flag y.facts.flags)
  pub loads_old : load_fault (with_clients O (facts_of cs)) y.facts.name ≡ None
  pub loads_new : load_fault (with_clients N (facts_of cs)) y.facts.name ≡ None
  pub answered : IsTrue (is_due (with_clients O (facts_of cs)) y.facts.name k) → IsTrue (is_answered (with_clients O (facts_of cs)) y.facts.name k)
  pub due : IsTrue (is_due (with_clients N (facts_of cs)) y.facts.name k)
  pub unanswered : IsFalse (is_answered (with_clients N (facts_of cs)) y.facts.name k)

-- of clients in scope, by allowed names, that link whole with the old release, one directly below the base b that declares nothing of the key
pub record SomeClientStops (O N : World) (b : Bytes) (k : Key) : Type 0 where
  pub clients : List ClientClass
  pub in_scope : IsInScope O N clients
  pub allowed_names : All (λ c. IsTrue (allowed O N c.facts.name)) clients
  pub links : All (LinksWhole (with_clients O (facts_of clients)) clients) clients
  pub client : ClientClass
  pub below : IsTrue (some_and (same b) client.facts.superclass || is_name_among client.facts.interfaces b)
  pub declares_none : own_method_of client.facts k ≡ None
  pub stops : Stops O N clients client k

-- ---- the laws

-- Each warning of which this holds is shown by a client.
abbrev pub WarningsAreShown : Type 0
WarningsAreShown = (O N : World) → CanPlan O N → (w : Warning) → WarningStands O N w → IsTrue (can_stop O N w.«class» w.key) → SomeClientStops O N w.«class» w.key

-- What each kind says, of a class directly below the base that declares nothing of the key. A lost one: it answered the key, and the base's chain has no method of it
-- any more, so that it stops answering unless the superinterfaces give a single one in its place. An abstract one: the key is due now and it doesn't answer it, so
-- that it stops unless it was due already and not answered. Of defaults: the chain of the base has nothing of the key on either side; it stops where the choice was
-- single and isn't now, and its own chain has nothing either, as it has where the base is an interface and java/lang/Object declares the key.
pub record WarningsStop (O N : World) (w : Warning) : Type 0 where
  pub was_answered : w.kind ≡ warn.Lost → IsTrue (answered_below O w.«class» w.key)
  pub is_lost : w.kind ≡ warn.Lost → ¬ (chain_kind N w.«class» w.key ≡ Concrete)
  pub lost : w.kind ≡ warn.Lost → IsFalse (answered_below N w.«class» w.key) → IsTrue (can_stop O N w.«class» w.key)
  pub lost_to_abstract : w.kind ≡ warn.Lost → kind_below N w.«class» w.key ≡ Abstract → IsTrue (can_stop O N w.«class» w.key)
  pub is_due : w.kind ≡ warn.Abstract → IsTrue (due_below N w.«class» w.key)
  pub is_unanswered : w.kind ≡ warn.Abstract → IsFalse (answered_below N w.«class» w.key)
  pub abstract : w.kind ≡ warn.Abstract → (IsTrue (due_below O w.«class» w.key) → IsTrue (answered_below O w.«class» w.key)) → IsTrue (can_stop O N w.«class» w.key)
  pub has_nothing : w.kind ≡ warn.Defaults → (chain_kind O w.«class» w.key ≡ Nothing) × (chain_kind N w.«class» w.key ≡ Nothing)
  pub defaults : w.kind ≡ warn.Defaults → kind_below O w.«class» w.key ≡ Nothing → kind_below N w.«class» w.key ≡ Nothing
      → IsTrue (are_one (choices_among O w.key (interfaces_from O w.«class»))) → IsFalse (are_one (choices_among N w.key (interfaces_from N w.«class»))) → IsTrue (can_stop O N w.«class» w.key)

abbrev pub KindsStop : Type 0
KindsStop = (O N : World) (w : Warning) → WarningStands O N w → WarningsStop O N w

-- A class directly below a base that declares nothing of the key and names no other interface stops answering it in no other case.
abbrev pub NoOthersStop : Type 0
NoOthersStop = (O N : World) (b : Bytes) (k : Key) (cs : List ClientClass) (y : ClientClass) → CanPlan O N → IsInScope O N cs → IsTrue (is_base O N b)
    → y.facts.superclass ≡ Some (super_below O b) → y.facts.interfaces ≡ named_below O b → own_method_of y.facts k ≡ None → Stops O N cs y k → IsTrue (can_stop O N b k)

-- ---- what nobody sees

-- of the base's chain and interfaces, and of what stands above these, nothing changed
pub record IsSameAbove (O N : World) (b : Bytes) : Type 0 where
  pub kind : is_interface_of O b ≡ is_interface_of N b
  pub chain : chain O b ≡ chain N b
  pub interfaces : interfaces_from O b ≡ interfaces_from N b
  pub above : All (λ c. superinterfaces O c.name ≡ superinterfaces N c.name) (interfaces_from O b)

-- Then nothing is warned of on it.
abbrev pub UnchangedIsUnwarned : Type 0
UnchangedIsUnwarned = (O N : World) (b : Bytes) (k : Key) → IsSameAbove O N b → warning_at O N b k ≡ None
