-- The packages of a world's classes, and how the names that they mention begin.
use Rattle.std.specs.Prelude.{Bool, nat_eq}
use Rattle.std.specs.List.{list_any, starts_with}
use Rattle.jc_facts.specs.Names.{Bytes, same, package_name}
use Rattle.jc_facts.specs.world.World.{World, classes}
use Rattle.jc_facts.specs.world.Mentioned.{mentions}

-- a class of the world is of this package (JVMS 5.3)
abbrev pub is_package : World → Bytes → Bool
is_package W name = list_any (λ c. same (package_name c.name) name) (classes W)

-- some class is named so, or names or permits such a name, that it begins with these bytes
abbrev pub mentions_front : World → Bytes → Bool
mentions_front W front = list_any (λ c. list_any (λ x. starts_with nat_eq x front) (mentions c)) (classes W)
