-- Who may name a class above itself.
--     is_extendable W a x      a public client named x, in a package of its own, may name the class a
use Rattle.std.specs.Prelude.{Bool, true, not, List, Option, None, Some, ◌&&◌}
use Rattle.jc_facts.specs.declared.class_facts.ClassFacts.{ClassFacts}
use Rattle.jc_facts.specs.Names.{Bytes, is_name_among}
use Rattle.jc_facts.specs.Flags.{public_flag, final_flag}
use Rattle.jc_facts.specs.world.Modules.{OfClients, same_module, module_of, is_visible}
use Rattle.jc_facts.specs.world.World.{World, class_is}

-- there are no permitted names; or this one is among them, and the class is in the module of the clients, as a class permits only
-- classes of its own (JVMS 4.7.31, 5.3.5)
abbrev pub permits_name : Bool → Bytes → Option (List Bytes) → Bool
permits_name of_clients x None = true
permits_name of_clients x (Some names) = of_clients && is_name_among names x

-- the class, by whether it is visible and whether it is in the module of the clients, is public, isn't final, and permits the name
abbrev pub lets_name_extend : Bool → Bool → Bytes → ClassFacts → Bool
lets_name_extend visible of_clients x c = visible && public_flag c.flags && not (final_flag c.flags) && permits_name of_clients x c.permits

-- the same of the class named a
unfoldable pub is_extendable : World → Bytes → Bytes → Bool
is_extendable W a x = class_is W (lets_name_extend (is_visible W a) (same_module OfClients (module_of W a)) x) a
