-- The names that classes mention.
--     mentions c      those that the class c mentions
--     mentioned O N      those that a class of one of the sides mentions
--     is_named_above W x      a class of the world names x as its superclass or an interface
use Rattle.std.specs.Prelude.{List, [], ◌∷◌, ◌++◌, Option, None, Some, Bool}
use Rattle.jc_facts.specs.declared.class_facts.ClassFacts.{ClassFacts}
use Rattle.jc_facts.specs.Names.{Bytes, is_name_among}
use Rattle.jc_facts.specs.world.World.{World, classes}
use Rattle.jc_facts.specs.world.Search.{supers}
use Rattle.std.specs.List.{list_any}

-- the names that a class permits to extend it, none where it has no such list (JVMS 4.7.31)
abbrev pub permitted : Option (List Bytes) → List Bytes
permitted None = []
permitted (Some names) = names

-- the class's name, those that it names above itself, and those that it permits
abbrev pub mentions : ClassFacts → List Bytes
mentions c = c.name ∷ (supers c ++ permitted c.permits)

-- all names that these classes mention
abbrev pub all_mentions : List ClassFacts → List Bytes
all_mentions [] = []
all_mentions (c ∷ cs) = mentions c ++ all_mentions cs

-- all names that one of the sides mentions: a class of it has the name, names it above itself or permits it
abbrev pub mentioned : World → World → List Bytes
mentioned O N = all_mentions (classes O) ++ all_mentions (classes N)

-- a class of the world names x as its superclass or an interface
abbrev pub is_named_above : World → Bytes → Bool
is_named_above W x = list_any (λ c. is_name_among (supers c) x) (classes W)
