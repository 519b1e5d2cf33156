-- The two sides of a comparison are a pair of worlds of which the laws of clients speak.
use Rattle.jc_promises.specs.Pairs.{IsPair}
use Rattle.jc_sides.specs.SidesOf.{SidesOf, AreSides}

abbrev pub pair_of : (s : SidesOf) → AreSides s → IsPair s.old s.new
pair_of s are = record {
  run = are.run;
  root = are.old_side.root;
  platform_valid = are.old_side.platform;
  old_valid = are.old_side.release;
  new_valid = are.new_side.release;
}
