-- Interfaces that a class no longer has. All that clients do still links, since every class is assignable to an interface (JVMS 4.10.1.2), but
-- invokeinterface on a value of the class fails (JVMS 6.5), and so do casts to the interface and stores into its arrays.
--     is_held O N x      clients can hold values of the class x with both releases
--     asks_for O N x t      clients that hold such values name the interface t with both, or hand them to members that take it though it is hidden
--     loses_interface O N x t      such a class had the interface t above it, and no longer has it
--     is_dropped O N x t      and no class that x names above itself loses t, so that x is where it is lost
--     AreDropped O N ds      ds are all that are dropped
use Rattle.std.specs.Prelude.{Bool, not, List, is_some, ◌||◌, ◌&&◌, IsTrue}
use Rattle.std.specs.List.{list_any}
use Rattle.std.specs.declared.cmp.Ordering.{Ordering}
use Rattle.std.specs.Ordering.{on, then_cmp}
use Rattle.jc_facts.specs.Names.{Bytes}
use Rattle.jc_facts.specs.Exactly.{name_order, HasExactly}
use Rattle.jc_facts.specs.world.World.{World, class_is}
use Rattle.jc_facts.specs.world.Search.{supers}
use Rattle.jc_facts.specs.world.Hierarchy.{is_superinterface}
use Rattle.jc_facts.specs.world.Loading.{loads}
use Rattle.jc_facts.specs.world.Assignment.{is_interface_of}
use Rattle.jc_promises.specs.rule.Bases.{is_kept, is_steady}
use Rattle.jc_promises.specs.rule.OpenActs.{first_seat}
use Rattle.jc_promises.specs.rule.Exposed.{is_exposed}
use Rattle.jc_promises.specs.rule.Findings.{takes_part}
use Rattle.jc_facts.specs.declared.dropped.Dropped.{Dropped}

-- the class is hidden, and a member exposes it to the clients of some seat
abbrev pub is_exposed_to_some : World → World → Bytes → Bool
is_exposed_to_some O N x = is_some (first_seat O N (λ a. is_exposed O a x))

-- it is, and it loads on the new side
unfoldable pub stays_exposed : World → World → Bytes → Bool
stays_exposed O N x = is_exposed_to_some O N x && loads N x

-- clients can hold values of the class on both sides: it is kept, or it is exposed and stays
unfoldable pub is_held : World → World → Bytes → Bool
is_held O N x = is_kept O N x || stays_exposed O N x

-- the class t is hidden, and exposed to the clients of a seat with which x takes part: x is kept, or exposed to that seat too
unfoldable pub is_exposed_with : World → World → Bytes → Bytes → Bool
is_exposed_with O N x t = is_some (first_seat O N (λ a. is_exposed O a t && takes_part O N a x))

-- it is, and it is an interface on the new side: the verifier then lets each value pass where t is asked for, without a look at its class
-- (JVMS 4.10.1.2). Where it is none, there is a finding
abbrev pub is_taken : World → World → Bytes → Bytes → Bool
is_taken O N x t = is_interface_of N t && is_exposed_with O N x t

-- clients that hold values of x can ask them for t: it is steady, or such members take them as a t
unfoldable pub asks_for : World → World → Bytes → Bytes → Bool
asks_for O N x t = is_steady O N t || is_taken O N x t

-- the interface t, for which clients can ask, is among the superinterfaces of x on the old side, and not on the new
unfoldable pub has_lost : World → World → Bytes → Bytes → Bool
has_lost O N x t = asks_for O N x t && is_superinterface O x t && not (is_superinterface N x t)

-- and clients can hold values of x on both sides
unfoldable pub loses_interface : World → World → Bytes → Bytes → Bool
loses_interface O N x t = is_held O N x && has_lost O N x t

-- the superclass of the old side's x, or an interface that it names, loses t
abbrev pub loses_above : World → World → Bytes → Bytes → Bool
loses_above O N x t = class_is O (λ c. list_any (λ s. loses_interface O N s t) (supers c)) x

-- x loses t, and nothing that it names above itself does
unfoldable pub is_dropped : World → World → Bytes → Bytes → Bool
is_dropped O N x t = loses_interface O N x t && not (loses_above O N x t)

-- by class, then interface
abbrev pub dropped_order : Dropped → Dropped → Ordering
dropped_order = then_cmp (on (λ d. d.«class») name_order) (on (λ d. d.interface) name_order)

-- the class drops the interface
abbrev pub IsDropped : World → World → Dropped → Type 0
IsDropped O N d = IsTrue (is_dropped O N d.«class» d.interface)

-- each interface that a class drops, once, in order, and no other
abbrev pub AreDropped : World → World → List Dropped → Type 0
AreDropped O N ds = HasExactly dropped_order (IsDropped O N) ds
