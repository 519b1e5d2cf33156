-- The seats of clients, and what is kept of them.
use Rattle.std.specs.Prelude.{◌≡◌, ◌∷◌, Bool, not, List, map}
use Rattle.std.specs.List.{filter, list_any, All}
use Rattle.jc_facts.specs.Names.{Bytes, object_name}
use Rattle.jc_facts.specs.world.Hierarchy.{chain, in_chain}
use Rattle.jc_promises.specs.rule.Bases.{is_base_class}
use Rattle.jc_index.specs.Ids.{names}
use Rattle.jc_sides.specs.SharedOf.{IsShared, name_of}
use Rattle.jc_sides.specs.SidesOf.{SidesOf, AreSides}
use Rattle.jc_acts.specs.Touched.{is_touched, passes_above, AreFlags}
use Rattle.jc_acts.specs.declared.seats.Seats.{Seats}
use Rattle.jc_acts.specs.steps.Commons.{AreCommon}

-- all seats of clients: java/lang/Object, and then the base classes in byte order
abbrev pub all_seats : SidesOf → List Bytes
all_seats s = object_name ∷ filter (is_base_class s.old s.new) (names s.old)

-- a class of the old chain isn't in the new one
abbrev pub loses_class : SidesOf → Bytes → Bool
loses_class s a = list_any (λ c. not (in_chain s.new a c.name)) (chain s.old a)

-- an act on a member of the class x may be closed now to a seat that could do it: x doesn't load, or it or a class above it changed
-- or left the chain of a seat
abbrev pub may_be_closed : SidesOf → Bytes → Bool
may_be_closed s x = passes_above s.old (is_touched s (all_seats s)) x

-- the seats are all seats. It is kept for each class of the old side whether an act on a member of it may be closed now, and one
-- of the new side below which the seats stand that stood below the first
pub record AreSeats (s : SidesOf) (t : Seats) : Type 0 where
  pub sides : AreSides s
  pub all : map name_of t.all.items ≡ all_seats s
  pub shared : All (IsShared s) t.all.items
  pub closing : AreFlags s.old (may_be_closed s) t.closing.items
  pub commons : AreCommon s.old s.new (all_seats s) t.commons.items
