-- Classes of a chain, by their numbers.
use Rattle.std.specs.Prelude.{ℕ, Bool, false, cond, Option, None, Some}
use Rattle.jc_facts.specs.Names.{Bytes, same}
use Rattle.jc_facts.specs.Options.{some_and}
use Rattle.jc_facts.specs.world.World.{World, find_class}
use Rattle.jc_index.specs.Ids.{name_at, superclass_of}

-- there is a class of the number, and it has the name y
abbrev pub has_name : World → Option ℕ → Bytes → Bool
has_name W None y = false
has_name W (Some n) y = some_and (λ c. same c.name y) (find_class W (name_at W n))

-- the number of its superclass
abbrev pub superclass_of_any : World → Option ℕ → Option ℕ
superclass_of_any W None = None
superclass_of_any W (Some n) = superclass_of W (name_at W n)

-- ---- a chain beside another one

-- the class beside, or else its superclass, where it has the name y
abbrev pub met_beside : World → Option ℕ → Bytes → Option ℕ
met_beside W beside y = cond (has_name W beside y) beside (cond (has_name W (superclass_of_any W beside) y) (superclass_of_any W beside) None)

-- the class beside the next one: the superclass of the one that was met, or the same as before
abbrev pub beside_after : World → Option ℕ → Option ℕ → Option ℕ
beside_after W beside None = beside
beside_after W beside (Some n) = superclass_of W (name_at W n)
