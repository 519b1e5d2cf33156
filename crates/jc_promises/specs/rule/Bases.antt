-- The words of the rules, over an old side O and a new side N alone.
use Rattle.std.specs.Prelude.{Bool, true, false, not, List, Option, None, Some, ◌||◌, ◌&&◌}
use Rattle.std.specs.List.{list_any}
use Rattle.jc_facts.specs.declared.class_facts.ClassFacts.{ClassFacts}
use Rattle.jc_facts.specs.declared.class_facts.Member.{Member}
use Rattle.jc_facts.specs.declared.key.Key.{Key}
use Rattle.jc_facts.specs.Names.{Bytes, is_name_among}
use Rattle.jc_desc.specs.Names.{is_init_name, is_clinit_name}
use Rattle.jc_facts.specs.Flags.{public_flag, final_flag, interface_flag}
use Rattle.jc_facts.specs.world.World.{World, class_is}
use Rattle.jc_facts.specs.world.Modules.{OfClients, is_visible}
use Rattle.jc_facts.specs.world.Loading.{loads, excludes}
use Rattle.jc_facts.specs.world.Assignment.{is_interface_of}
use Rattle.jc_facts.specs.client.Allowed.{is_allowed_name}
use Rattle.jc_facts.specs.world.Inheritance.{public_or_protected}

-- ---- of a class on both sides

-- clients can use the class: it is there, is public and visible, and loads
unfoldable pub is_class_usable : World → Bytes → Bool
is_class_usable W x = class_is W (λ c. is_visible W x && public_flag c.flags) x && loads W x

-- it was usable and still is
unfoldable pub is_kept : World → World → Bytes → Bool
is_kept O N x = is_class_usable O x && is_class_usable N x

-- a kept class was an interface and is none now
unfoldable pub became_class : World → World → Bytes → Bool
became_class O N x = is_kept O N x && is_interface_of O x && not (is_interface_of N x)

-- it is kept, and hasn't stopped to be an interface
unfoldable pub is_steady : World → World → Bytes → Bool
is_steady O N x = is_kept O N x && not (became_class O N x)

-- ---- what clients may extend and implement

-- the name is allowed for both sides
abbrev pub allowed : World → World → Bytes → Bool
allowed O N x = is_allowed_name O x && is_allowed_name N x

-- there are no permitted names, or an allowed name is among them
abbrev pub permits_some : World → World → Option (List Bytes) → Bool
permits_some O N None = true
permits_some O N (Some names) = list_any (allowed O N) names

-- some client may name the class above itself, as far as its permitted names go (JVMS 4.7.31, 5.3.5)
abbrev pub is_open : World → World → ClassFacts → Bool
is_open O N c = not (excludes O c OfClients) && permits_some O N c.permits

-- the class declares an instance initializer that passes the test
abbrev pub has_init : ClassFacts → (Member → Bool) → Bool
has_init c test = list_any (λ m. is_init_name m.name && test m) c.methods

-- clients could extend it: on the old side a public class that loads, isn't final, has a public or protected initializer and is open
unfoldable pub is_extendable : World → World → Bytes → Bool
is_extendable O N x = is_class_usable O x && class_is O (λ c. not (interface_flag c.flags) && not (final_flag c.flags) && has_init c public_or_protected && is_open O N c) x

-- clients could implement it: on the old side a public interface that loads and is open
unfoldable pub is_implementable : World → World → Bytes → Bool
is_implementable O N x = is_class_usable O x && class_is O (λ c. interface_flag c.flags && is_open O N c) x

-- the new permitted names are without an allowed name that the old ones let in; where there were no old ones, any allowed name
-- that isn't listed is such a name, and there always is one
abbrev pub leaves_out : World → World → Option (List Bytes) → Option (List Bytes) → Bool
leaves_out O N before None = false
leaves_out O N None (Some names) = true
leaves_out O N (Some before) (Some names) = list_any (λ x. allowed O N x && not (is_name_among names x)) before

-- d, the class on the new side, permits no client, or leaves out one that c, the class on the old side, let in
abbrev pub newly_sealed : World → World → ClassFacts → ClassFacts → Bool
newly_sealed O N c d = excludes N d OfClients || leaves_out O N c.permits d.permits

-- a steady class that clients could extend or implement: some no longer can, since it is final, became an interface or is newly sealed
unfoldable pub is_class_closed : World → World → Bytes → Bool
is_class_closed O N x = is_steady O N x && (is_extendable O N x || is_implementable O N x)
    && class_is O (λ c. class_is N (λ d. final_flag d.flags || (interface_flag d.flags && not (interface_flag c.flags)) || newly_sealed O N c d) x) x

-- clients could extend the class and still can
unfoldable pub is_base_class : World → World → Bytes → Bool
is_base_class O N x = is_extendable O N x && is_steady O N x && not (is_class_closed O N x)

-- clients could implement the interface and still can
unfoldable pub is_base_interface : World → World → Bytes → Bool
is_base_interface O N x = is_implementable O N x && is_steady O N x && not (is_class_closed O N x)

-- ---- of a method key

-- the key of a method that is no initializer
abbrev pub is_key_of_method : Key → Bool
is_key_of_method k = not (is_init_name k.name || is_clinit_name k.name)
