-- The names that clients in scope of two sides may have.
--     is_free_name W x      the classes of the world leave the name to clients
--     is_permitted W x      a class of the world permits the name
--     is_client_name O N x      a client in scope of the two sides may have it
use Rattle.std.specs.Prelude.{Bool, not, is_some, ◌||◌, ◌&&◌}
use Rattle.std.specs.List.{list_any}
use Rattle.jc_facts.specs.Names.{Bytes, is_name_among}
use Rattle.jc_facts.specs.world.World.{World, find_class, classes}
use Rattle.jc_facts.specs.world.Mentioned.{is_named_above, permitted}
use Rattle.jc_facts.specs.client.Allowed.{has_package}
use Rattle.jc_promises.specs.rule.Bases.{allowed}

-- no class of the world declares the name, names it above itself or is of its package
unfoldable pub is_free_name : World → Bytes → Bool
is_free_name W x = not (is_some (find_class W x)) && not (is_named_above W x) && not (has_package W x)

-- a class of the world has x among its permitted names (JVMS 4.7.31)
abbrev pub is_permitted : World → Bytes → Bool
is_permitted W x = list_any (λ c. is_name_among (permitted c.permits) x) (classes W)

-- the name is free on both sides, and allowed for both where a class of the old one permits it: of permitted names the rules
-- look at the allowed ones alone
unfoldable pub is_client_name : World → World → Bytes → Bool
is_client_name O N x = is_free_name O x && is_free_name N x && (not (is_permitted O x) || allowed O N x)
