-- The numbers of a world's classes: they stand in byte order of the names. And their names by their places.
--     names W      the names of the classes, in byte order
--     name_at W n      the name of the class of number n
--     id_of W x      the number of the class of this name
--     name_in cs at      the name of the class at this place of a list
use Rattle.std.specs.Prelude.{ℕ, suc, cond, List, [], ◌∷◌, Option, None, Some, option_map, slice_get, slice_index_or}
use Rattle.std.specs.Ordering.{is_lt}
use Rattle.jc_facts.specs.declared.class_facts.ClassFacts.{ClassFacts}
use Rattle.jc_facts.specs.Names.{Bytes, same}
use Rattle.jc_facts.specs.Options.{and_then}
use Rattle.jc_facts.specs.Exactly.{name_order}
use Rattle.jc_facts.specs.world.World.{World, classes, find_class}

-- the name at its place in the order
unfoldable pub insert : Bytes → List Bytes → List Bytes
insert x [] = x ∷ []
insert x (y ∷ ys) = cond (is_lt (name_order x y)) (x ∷ y ∷ ys) (y ∷ insert x ys)

-- the names of the classes, in byte order
unfoldable pub names_of : List ClassFacts → List Bytes
names_of [] = []
names_of (c ∷ cs) = insert c.name (names_of cs)

-- the names of the world's classes, in byte order
unfoldable pub names : World → List Bytes
names W = names_of (classes W)

-- the name of the class of number n
abbrev pub name_at : World → ℕ → Bytes
name_at W n = slice_index_or (names W) n []

-- how many stand before the name
unfoldable pub place_of : List Bytes → Bytes → Option ℕ
place_of [] x = None
place_of (y ∷ ys) x = cond (same y x) (Some 0) (option_map suc (place_of ys x))

-- the number of the class of this name, none where the world has no such class
unfoldable pub id_of : World → Bytes → Option ℕ
id_of W x = place_of (names W) x

-- the number of the class that the class x names as its superclass, none where the world has no such class
unfoldable pub superclass_of : World → Bytes → Option ℕ
superclass_of W x = and_then (λ c. and_then (id_of W) c.superclass) (find_class W x)

-- ---- by their places

-- the name of the class, nothing where there is none
abbrev pub name_or : Option ClassFacts → Bytes
name_or None = []
name_or (Some c) = c.name

-- the name of the class at this place
abbrev pub name_in : List ClassFacts → ℕ → Bytes
name_in cs at = name_or (slice_get cs at)
