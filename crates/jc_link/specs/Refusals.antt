-- Why clients aren't linked.
--     name_fault W x      why a client of the side may not have this name
--     RefusesLink P R cs refusal      the refusal comes of this platform, this release and these clients
--     MayLink P R cs      nothing refuses them
use Rattle.std.specs.Prelude.{not, List, [], ◌∷◌, length, Option, None, Some, is_some, is_none, option_map, nat_le, ◌≡◌}
use Rattle.std.specs.Str.{is_utf8}
use Rattle.jc_facts.specs.declared.limits.TheConstants.{MAX_CLASS_NAME}
use Rattle.jc_facts.specs.declared.class_facts.ClassFacts.{ClassFacts}
use Rattle.jc_facts.specs.declared.client.ClientClass.{ClientClass}
use Rattle.jc_facts.specs.Names.{Bytes}
use Rattle.jc_facts.specs.Options.{or_else, some_where}
use Rattle.jc_facts.specs.world.World.{World, side, find_class}
use Rattle.jc_facts.specs.world.Mentioned.{is_named_above}
use Rattle.jc_facts.specs.client.Allowed.{has_package, is_allowed_name}
use Rattle.jc_facts.specs.client.Linked.{in_order}
use Rattle.jc_index.specs.Root.{fault_of_root}
use Rattle.jc_index.specs.Sides.{overlap_of}
use Rattle.jc_link.specs.declared.refusal.ClientPart.{ClientPart}
use Rattle.jc_link.specs.declared.refusal.ClientPart.TheVariants as parts
use Rattle.jc_link.specs.declared.refusal.LinkRefusal.{LinkRefusal}
use Rattle.jc_link.specs.declared.refusal.LinkRefusal.TheVariants as refusals

-- why a client of the side may not have this name, the first part that holds; none where the name is allowed
unfoldable pub name_fault : World → Bytes → Option ClientPart
name_fault W x =
    or_else (some_where (is_some (find_class W x)) parts.Declared)
    (or_else (some_where (is_named_above W x) parts.Super)
    (or_else (some_where (has_package W x) parts.Package)
    (or_else (some_where (not (nat_le (length x) MAX_CLASS_NAME)) parts.Length)
    (some_where (not (is_utf8 x)) parts.Encoding))))

-- the name with the part
abbrev pub with_part : Bytes → Option ClientPart → Option (Bytes × ClientPart)
with_part x o = option_map (λ p. (x, p)) o

-- the first of the clients whose name isn't allowed, and why
abbrev pub first_refused : World → List ClientClass → Option (Bytes × ClientPart)
first_refused W [] = None
first_refused W (c ∷ cs) = or_else (with_part c.facts.name (name_fault W c.facts.name)) (first_refused W cs)

-- the first in byte order
abbrev pub refused_client : World → List ClientClass → Option (Bytes × ClientPart)
refused_client W cs = first_refused W (in_order cs)

-- a bad root, then an overlap of platform and release, then a client, where there is one to be refused. Memory may be wanting at any time
abbrev pub RefusesBy : List ClassFacts → List ClassFacts → Option (Bytes × ClientPart) → LinkRefusal → Type 0
RefusesBy P R client (refusals.BadRoot part) = fault_of_root P ≡ Some part
RefusesBy P R client (refusals.Overlap name) = (fault_of_root P ≡ None) × (overlap_of P R ≡ Some name)
RefusesBy P R client (refusals.ClientName name part) = (fault_of_root P ≡ None) × (overlap_of P R ≡ None) × (client ≡ Some (name, part))
RefusesBy P R client refusals.Memory = Unit {0}

-- the same, where the client is the first in byte order whose name isn't allowed
abbrev pub RefusesLink : List ClassFacts → List ClassFacts → List ClientClass → LinkRefusal → Type 0
RefusesLink P R cs refusal = RefusesBy P R (refused_client (side P R) cs) refusal

-- nothing refuses the clients
pub record MayLink (P R : List ClassFacts) (cs : List ClientClass) : Type 0 where
  pub root : fault_of_root P ≡ None
  pub apart : overlap_of P R ≡ None
  pub allowed : refused_client (side P R) cs ≡ None

-- a name has no part against it exactly where it is allowed
abbrev pub NamesAreAllowed : Type 0
NamesAreAllowed = (W : World) (x : Bytes) → is_none (name_fault W x) ≡ is_allowed_name W x
