-- Which names of clients a side takes.
--     AreTaken W n t      t are the names that the classes of the side W take of the names n
--     fault_by t x, first_by t cs      why the name isn't allowed, and the first client whose name isn't, by such names
use Rattle.std.specs.Prelude.{◌≡◌, ◌&&◌, Bool, List, [], ◌∷◌, not, length, nat_le, Option, None, is_some, IsTrue}
use Rattle.std.specs.List.{filter, list_all}
use Rattle.std.specs.Str.{is_utf8}
use Rattle.jc_facts.specs.declared.limits.TheConstants.{MAX_CLASS_NAME}
use Rattle.jc_facts.specs.declared.class_facts.ClassFacts.{ClassFacts}
use Rattle.jc_facts.specs.declared.client.ClientClass.{ClientClass}
use Rattle.jc_facts.specs.Names.{Bytes, is_name_among, package_name}
use Rattle.jc_facts.specs.Options.{or_else, some_where}
use Rattle.jc_facts.specs.world.World.{World, find_class}
use Rattle.jc_facts.specs.world.Search.{supers}
use Rattle.jc_facts.specs.world.Mentioned.{is_named_above}
use Rattle.jc_facts.specs.client.Allowed.{has_package}
use Rattle.jc_link.specs.Refusals.{with_part}
use Rattle.jc_link.specs.declared.client_names.ClientNames.{ClientNames}
use Rattle.jc_link.specs.declared.client_names.TakenNames.{TakenNames}
use Rattle.jc_link.specs.declared.refusal.ClientPart.{ClientPart}
use Rattle.jc_link.specs.declared.refusal.ClientPart.TheVariants as parts

-- ---- names of clients

-- it is the name of one of the clients, and one of them is of its package
abbrev pub is_of : ClientNames → Bytes → Bool
is_of n x = is_name_among n.names x && is_name_among n.packages (package_name x)

-- so are the names of all these clients
abbrev pub are_of : ClientNames → List ClientClass → Bool
are_of n cs = list_all (λ c. is_of n c.facts.name) cs

-- ---- names that a side takes

-- those of the names that are wanted
abbrev pub wanted : List Bytes → List Bytes → List Bytes
wanted ws xs = filter (is_name_among ws) xs

-- what the class takes of the names: its own, those above it, its package
abbrev pub own_of : ClientNames → ClassFacts → List Bytes
own_of n c = wanted n.names (c.name ∷ [])

abbrev pub above_of : ClientNames → ClassFacts → List Bytes
above_of n c = wanted n.names (supers c)

abbrev pub package_of_class : ClientNames → ClassFacts → List Bytes
package_of_class n c = wanted n.packages (package_name c.name ∷ [])

-- of the names of clients, those that the side's classes have and that they name above themselves, and the packages that they are of
pub record AreTaken (W : World) (n : ClientNames) (t : TakenNames) : Type 0 where
  pub declared : (x : Bytes) → IsTrue (is_of n x) → is_name_among t.declared x ≡ is_some (find_class W x)
  pub supers : (x : Bytes) → IsTrue (is_of n x) → is_name_among t.supers x ≡ is_named_above W x
  pub packages : (x : Bytes) → IsTrue (is_of n x) → is_name_among t.packages (package_name x) ≡ has_package W x

-- ---- clients

-- why a client may not have this name
unfoldable pub fault_by : TakenNames → Bytes → Option ClientPart
fault_by t x =
    or_else (some_where (is_name_among t.declared x) parts.Declared)
    (or_else (some_where (is_name_among t.supers x) parts.Super)
    (or_else (some_where (is_name_among t.packages (package_name x)) parts.Package)
    (or_else (some_where (not (nat_le (length x) MAX_CLASS_NAME)) parts.Length)
    (some_where (not (is_utf8 x)) parts.Encoding))))

-- the first of the clients that may not have its name, and why
abbrev pub first_by : TakenNames → List ClientClass → Option (Bytes × ClientPart)
first_by t [] = None
first_by t (c ∷ cs) = or_else (with_part c.facts.name (fault_by t c.facts.name)) (first_by t cs)
