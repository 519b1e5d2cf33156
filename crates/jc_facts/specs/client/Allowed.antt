-- The names that clients of a side may have.
--     is_allowed_name W x      a client of the side may have this name
use Rattle.std.specs.Prelude.{Bool, not, length, is_some, ◌&&◌, nat_le}
use Rattle.std.specs.List.{list_any}
use Rattle.std.specs.Str.{is_utf8}
use Rattle.jc_facts.specs.declared.limits.TheConstants.{MAX_CLASS_NAME}
use Rattle.jc_facts.specs.Names.{Bytes, in_same_package}
use Rattle.jc_facts.specs.world.World.{World, find_class, classes}
use Rattle.jc_facts.specs.world.Mentioned.{is_named_above}

-- a class of the world is of x's package (JVMS 5.3)
abbrev pub has_package : World → Bytes → Bool
has_package W x = list_any (λ c. in_same_package c.name x) (classes W)

-- a name that a client of the side may have: no class of the side declares it, names it above itself or is of its package,
-- and it is a UTF-8 text of at most MAX_CLASS_NAME bytes
unfoldable pub is_allowed_name : World → Bytes → Bool
is_allowed_name W x = not (is_some (find_class W x)) && not (is_named_above W x) && not (has_package W x) && nat_le (length x) MAX_CLASS_NAME && is_utf8 x
