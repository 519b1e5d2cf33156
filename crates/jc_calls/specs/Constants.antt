-- Classes of which a switch of a client may list all values, over the old side O and the new side N alone.
--     constants_added O N x      the steady class x has a value now that no such list of the old release has
-- javac writes an exhaustive switch without default so that it throws where no case is met: MatchException, and before Java 21
-- IncompatibleClassChangeError (JLS 15.28.2, 14.11.1.1). What the client's class file names all links.
use Rattle.std.specs.Prelude.{Bool, not, Option, None, Some, is_some, List, ◌&&◌, ◌||◌, true, false}
use Rattle.std.specs.List.{list_any}
use Rattle.jc_facts.specs.declared.class_facts.ClassFacts.{ClassFacts}
use Rattle.jc_facts.specs.Flags.{enum_flag, abstract_flag}
use Rattle.jc_facts.specs.Names.{Bytes, same, is_name_among}
use Rattle.jc_facts.specs.world.World.{World, class_is}
use Rattle.jc_promises.specs.rule.Bases.{is_steady}

-- the class declares a constant of an enum of this name (JVMS 4.5, ACC_ENUM)
abbrev pub has_constant : ClassFacts → Bytes → Bool
has_constant c name = list_any (λ m. enum_flag m.flags && same m.name name) c.fields

-- d, the class on the new side, declares such a constant that c, the class on the old side, doesn't
abbrev pub gets_constant : ClassFacts → ClassFacts → Bool
gets_constant c d = enum_flag c.flags && list_any (λ m. enum_flag m.flags && not (has_constant c m.name)) d.fields

-- the old permitted names are all, and the new ones have another beside, or are no limit any more (JVMS 4.7.31)
abbrev pub permits_more : Option (List Bytes) → Option (List Bytes) → Bool
permits_more None after = false
permits_more (Some before) None = true
permits_more (Some before) (Some after) = list_any (λ x. not (is_name_among before x)) after

-- c was sealed and abstract, so that all its objects were of permitted subclasses, and d isn't abstract
abbrev pub gets_objects : ClassFacts → ClassFacts → Bool
gets_objects c d = is_some c.permits && abstract_flag c.flags && not (abstract_flag d.flags)

-- the class is steady, and an enum that gets a constant, or sealed and permits a subclass more or has objects of its own now
unfoldable pub constants_added : World → World → Bytes → Bool
constants_added O N x = is_steady O N x && class_is O (λ c. class_is N (λ d. gets_constant c d || permits_more c.permits d.permits || gets_objects c d) x) x
