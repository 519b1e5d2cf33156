-- The two tables of a comparison, and the numbers of the classes of the one on the other, as its fields have them.
use Rattle.std.specs.Prelude.{◌≡◌, map}
use Rattle.jc_index.specs.Ids.{names, id_of}
use Rattle.jc_sides.specs.SidesOf.{SidesOf, AreSides}
use Rattle.jc_sides.specs.declared.sides.Sides.TheInside.{Inside}

-- the worlds of the two tables
abbrev pub worlds : Inside → SidesOf
worlds s = record { old = s.old.now; new = s.new.now }

-- the tables are two sides, and kept are the numbers on the new one of the names on the old one
pub record AreFields (s : Inside) : Type 0 where
  pub sides : AreSides (worlds s)
  pub new_ids : s.new_ids.items ≡ map (id_of s.new.now) (names s.old.now)
