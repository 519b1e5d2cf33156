-- Walks up the superclasses of a class, by numbers, and the keys of the final methods that they may meet.
use Rattle.std.specs.Prelude.{ℕ, ◌≡◌, ◌<◌, Bool, true, false, cond, not, List, [], length, map, filter, set, slice_index_or, Option, None, Some, is_some, ◌&&◌}
use Rattle.jc_facts.specs.declared.class_facts.ClassFacts.{ClassFacts}
use Rattle.jc_facts.specs.declared.class_facts.Member.{Member}
use Rattle.jc_facts.specs.declared.key.Key.{Key}
use Rattle.jc_facts.specs.Names.{Bytes, key_of}
use Rattle.jc_facts.specs.Flags.{final_flag, no_static_flag}
use Rattle.jc_facts.specs.Options.{and_then, some_and, some_where}
use Rattle.jc_facts.specs.file.Valid.{has_key}
use Rattle.jc_facts.specs.world.World.{World, class_named, find_class, own_method_of}
use Rattle.jc_facts.specs.world.Search.{descend}
use Rattle.jc_facts.specs.world.Hierarchy.{chain_step}
use Rattle.jc_index.specs.Ids.{name_at, superclass_of}

-- the class of this number and those above it, at most n of them
unfoldable pub chain_from : World → ℕ → Option ℕ → List ClassFacts
chain_from W n None = []
chain_from W n (Some id) = descend W [] [] chain_step n (name_at W id)

-- a final instance method
abbrev pub is_final_instance : Member → Bool
is_final_instance m = final_flag m.flags && no_static_flag m.flags

-- the class declares the key as such a method
abbrev pub declares_final_instance : Key → ClassFacts → Bool
declares_final_instance k c = some_and is_final_instance (own_method_of c k)

-- the keys of such methods of the class, where it is marked
abbrev pub final_keys_where : Bool → ClassFacts → List Key
final_keys_where marked c = cond marked (map key_of (filter is_final_instance c.methods)) []

-- the marks, of which that of the number is set, where there is one
abbrev pub marked_with : List Bool → Option ℕ → List Bool
marked_with marks None = marks
marked_with marks (Some n) = set marks n true

-- there are so many marks, and those of what `next` gives of the first n numbers are set
pub record AreMarked (next : ℕ → Option ℕ) (many n : ℕ) (marks : List Bool) : Type 0 where
  pub count : length marks ≡ many
  pub marked : (m k : ℕ) → m < n → next m ≡ Some k → slice_index_or marks k false ≡ true

-- where `find` gives the class of a name, these are the keys of all such methods of the classes that others have as their superclass, or more
abbrev pub HaveFinals : (Bytes → Option ClassFacts) → List Key → Type 0
HaveFinals find ks = (k : Key) → has_key k ks ≡ false → (x : Bytes) (b : ClassFacts) → find x ≡ Some b → (s : Bytes) → b.superclass ≡ Some s → (c : ClassFacts) → find s ≡ Some c → declares_final_instance k c ≡ false

-- the same of a world's classes
abbrev pub HaveAllFinal : World → List Key → Type 0
HaveAllFinal W ks = HaveFinals (find_class W) ks

-- the same of a platform's classes alone
abbrev pub HavePlatformFinals : List ClassFacts → List Key → Type 0
HavePlatformFinals cs ks = HaveFinals (class_named cs) ks

-- ---- beside those of the platform

-- both names are of classes of the platform
abbrev pub are_of_platform : World → Bytes → Bytes → Bool
are_of_platform W x y = is_some (class_named W.platform x) && is_some (class_named W.platform y)

-- the number of the class that the class of number n has as its superclass, where not both are of the platform
abbrev pub superclass_beside : World → ℕ → Option ℕ
superclass_beside W n = and_then (λ k. some_where (not (are_of_platform W (name_at W n) (name_at W k))) k) (superclass_of W (name_at W n))

-- these are the keys of all such methods of the classes that others have as their superclass, where not both are of the platform, or more
abbrev pub HaveFinalsBeside : World → List Key → Type 0
HaveFinalsBeside W ks = (k : Key) → has_key k ks ≡ false → (x : Bytes) (b : ClassFacts) → find_class W x ≡ Some b → (s : Bytes) → b.superclass ≡ Some s → (c : ClassFacts) → find_class W s ≡ Some c → are_of_platform W x s ≡ false → declares_final_instance k c ≡ false
