-- Of which classes rows are made: of java/lang/Object, of the classes of a release, of the platform's that stand on these, and of
-- all that is above them. A comparison hardly looks from the platform's other classes.
use Rattle.std.specs.Prelude.{Bool, ◌&&◌, ◌||◌, ◌++◌, is_none}
use Rattle.std.specs.List.{list_any}
use Rattle.jc_facts.specs.Names.{Bytes, object_name}
use Rattle.jc_facts.specs.world.World.{World, classes}
use Rattle.jc_facts.specs.world.Hierarchy.{in_chain, is_superinterface}
use Rattle.jc_facts.specs.world.Loading.{load_fault}

-- y loads, and x is y, a superclass of it or a superinterface
abbrev pub is_above : World → Bytes → Bytes → Bool
is_above W x y = is_none (load_fault W y) && (in_chain W y x || is_superinterface W y x)

-- a class of the release, or a client, is above y: each class of these that loads stands on the release, and so does each of the platform below one
unfoldable pub stands_on_release : World → Bytes → Bool
stands_on_release W y = list_any (λ c. is_above W c.name y) (W.release ++ W.clients)

-- x is above java/lang/Object, or above a class that stands on the release
unfoldable pub has_rows : World → Bytes → Bool
has_rows W x = is_above W x object_name || list_any (λ d. stands_on_release W d.name && is_above W x d.name) (classes W)
