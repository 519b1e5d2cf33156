-- Seats of these that are apart from a seat, and to which hidden classes are exposed.
use Rattle.std.specs.Prelude.{ℕ, Bool, List, is_some, ◌&&◌}
use Rattle.std.specs.List.{find as first_where}
use Rattle.jc_facts.specs.Names.{Bytes}
use Rattle.jc_promises.specs.rule.Apart.{are_apart}
use Rattle.jc_promises.specs.rule.Exposed.{is_exposed}
use Rattle.jc_sides.specs.SidesOf.{SidesOf}
use Rattle.jc_index.specs.Ids.{name_at}

-- the class of the number t is exposed to the seat b, and b is apart from a
abbrev pub is_other_for : SidesOf → Bytes → ℕ → Bytes → Bool
is_other_for s a t b = is_exposed s.old b (name_at s.old t) && are_apart s.old s.new a b

-- the class of the number f is exposed to the seat a, and the one of the number t to such a seat of these
abbrev pub hands_on : SidesOf → ℕ → ℕ → List Bytes → Bytes → Bool
hands_on s f t others a = is_exposed s.old a (name_at s.old f) && is_some (first_where (is_other_for s a t) others)
