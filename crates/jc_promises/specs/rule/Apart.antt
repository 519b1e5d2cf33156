-- Two clients, one directly below each of two seats: what is exposed to the one seat is handed on to the clients of the other.
--     are_apart O N a b      the classes a and b leave two clients, one below each of them, names that differ
--     other_seat O N a t      the first seat to which the class t is exposed and which is apart from a
use Rattle.std.specs.Prelude.{Bool, true, not, List, Option, None, Some, ◌&&◌}
use Rattle.std.specs.List.{list_any}
use Rattle.jc_facts.specs.Names.{Bytes, same}
use Rattle.jc_facts.specs.Options.{and_then}
use Rattle.jc_facts.specs.world.World.{World, find_class}
use Rattle.jc_promises.specs.rule.Bases.{allowed}
use Rattle.jc_promises.specs.rule.OpenActs.{first_seat}
use Rattle.jc_promises.specs.rule.Exposed.{is_exposed}

-- the names that the class permits on the old side, where it has permitted names (JVMS 4.7.31)
abbrev pub permits_of : World → Bytes → Option (List Bytes)
permits_of O a = and_then (λ c. c.permits) (find_class O a)

-- an allowed name other than x is among these
abbrev pub has_other : World → World → Bytes → List Bytes → Bool
has_other O N x names = list_any (λ y. allowed O N y && not (same x y)) names

-- an allowed name of the first list and another one of the second; a class without permitted names leaves any name
abbrev pub permit_two : World → World → Option (List Bytes) → Option (List Bytes) → Bool
permit_two O N None ys = true
permit_two O N (Some xs) None = true
permit_two O N (Some xs) (Some ys) = list_any (λ x. allowed O N x && has_other O N x ys) xs

-- two clients, one below each of the classes, can have names that differ, as far as permitted names go
unfoldable pub are_apart : World → World → Bytes → Bytes → Bool
are_apart O N a b = permit_two O N (permits_of O a) (permits_of O b)

-- the first seat to which the class t is exposed and which is apart from the seat a
unfoldable pub other_seat : World → World → Bytes → Bytes → Option Bytes
other_seat O N a t = first_seat O N (λ b. is_exposed O b t && are_apart O N a b)
