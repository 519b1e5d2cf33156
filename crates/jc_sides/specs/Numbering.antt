-- The numbers of keys on both sides.
use Rattle.std.specs.Prelude.{◌≡◌, ℕ, List, Some, length, slice_get}
use Rattle.jc_facts.specs.declared.key.Key.{Key}
use Rattle.jc_facts.specs.world.World.{World}
use Rattle.jc_rows.specs.Keys.{numbered_keys, IsNumber}
use Rattle.jc_sides.specs.SidesOf.{SidesOf}
use Rattle.jc_sides.specs.declared.key_numbers.KeyNumbers.{KeyNumbers}
use Rattle.jc_sides.specs.declared.translation.Translation.{Translation}

-- they are the key's on the old side and on the new
pub record AreNumbers (s : SidesOf) (k : Key) (p : KeyNumbers) : Type 0 where
  pub old : IsNumber (numbered_keys s.old) k p.old
  pub new : IsNumber (numbered_keys s.new) k p.new

-- the numbers of the keys, each at its place
pub record AreOf (s : SidesOf) (keys : List Key) (ps : List KeyNumbers) : Type 0 where
  pub count : length ps ≡ length keys
  pub right : (n : ℕ) (k : Key) (p : KeyNumbers) → slice_get keys n ≡ Some k → slice_get ps n ≡ Some p → AreNumbers s k p

-- those of the keys of the world W, each at the place of its number there
abbrev pub AreOfKeys : SidesOf → World → List KeyNumbers → Type 0
AreOfKeys s W ps = AreOf s (numbered_keys W) ps

-- for each side those of its keys
pub record IsTranslation (s : SidesOf) (t : Translation) : Type 0 where
  pub of_old : AreOfKeys s s.old t.old.items
  pub of_new : AreOfKeys s s.new t.new.items
