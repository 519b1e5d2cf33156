-- The parts of a field lookup (JVMS 5.4.3.2).
use Rattle.std.specs.Prelude.{ℕ, ◌<◌, ◌≡◌, Bool, List, Option, None, Some, is_some, IsTrue}
use Rattle.std.specs.List.{All, Contains}
use Rattle.jc_facts.specs.declared.class_facts.ClassFacts.{ClassFacts}
use Rattle.jc_facts.specs.declared.key.Key.{Key}
use Rattle.jc_facts.specs.Names.{Bytes}
use Rattle.jc_facts.specs.Options.{or_else, first_some, and_then, some_and}
use Rattle.jc_facts.specs.world.World.{World, find_class, size, own_field_of, DeclaredMember, found_in}
use Rattle.jc_facts.specs.world.Loading.{load_fault}
use Rattle.jc_facts.specs.world.Assignment.{is_interface_of}
use Rattle.jc_facts.specs.world.Search.{descend}
use Rattle.jc_facts.specs.world.Lookup.{field_found, field_step}
use Rattle.jc_index.specs.Ids.{name_at}

-- the class itself declares a field of the key
abbrev pub declares_field : Key → ClassFacts → Bool
declares_field k c = is_some (own_field_of c k)

-- the class of number n itself declares a field of the key
abbrev pub declares_at : World → Key → ℕ → Bool
declares_at W k n = some_and (declares_field k) (find_class W (name_at W n))

-- the field that the class x itself declares
abbrev pub own_found : World → Bytes → Key → Option DeclaredMember
own_found W x k = and_then (λ c. found_in c (own_field_of c k)) (find_class W x)

-- what the interfaces that the class x names give, in order
abbrev pub interfaces_found : World → Bytes → Key → Option DeclaredMember
interfaces_found W x k = and_then (λ c. first_some (λ i. field_found W i k) c.interfaces) (find_class W x)

-- the class's own field, or else what its interfaces give
abbrev pub here_found : World → Bytes → Key → Option DeclaredMember
here_found W x k = or_else (own_found W x k) (interfaces_found W x k)

-- these are interfaces that load
abbrev pub AreReady : World → List Bytes → Type 0
AreReady W ys = All (λ y. IsTrue (is_interface_of W y) × (load_fault W y ≡ None)) ys

-- what these interfaces give is what the one of number n gives; where there is no number, they give nothing
abbrev pub GivenBy : World → Key → List Bytes → Option ℕ → Type 0
GivenBy W k ys None = first_some (λ i. field_found W i k) ys ≡ None
GivenBy W k ys (Some n) = (n < size W) × Contains ys (name_at W n) × (first_some (λ i. field_found W i k) ys ≡ field_found W (name_at W n) k)

-- the same of the interfaces that the class x names
abbrev pub Gives : World → Key → Bytes → Option ℕ → Type 0
Gives W k x o = (c : ClassFacts) → find_class W x ≡ Some c → GivenBy W k c.interfaces o

-- the field that a search n levels deep gives of the class x
abbrev pub found_to : World → Key → ℕ → Bytes → Option DeclaredMember
found_to W k n x = descend W None None (field_step k) n x
