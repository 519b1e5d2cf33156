-- Numbered keys: the number of a key is how many stand before it.
--     numbered_keys W      the keys of the members of the classes that have rows, each once
--     IsNumber keys k o      o is the number of the key k
--     AreDistinct keys      no key has two numbers
use Rattle.std.specs.Prelude.{ℕ, Bool, ◌≡◌, ◌&&◌, ◌||◌, cond, is_some, List, [], ◌∷◌, ◌++◌, Option, None, Some, slice_get}
use Rattle.std.specs.List.{list_any}
use Rattle.jc_facts.specs.declared.class_facts.ClassFacts.{ClassFacts}
use Rattle.jc_facts.specs.declared.class_facts.Member.{Member}
use Rattle.jc_facts.specs.declared.key.Key.{Key}
use Rattle.jc_facts.specs.Names.{Bytes, same_key, key_of}
use Rattle.jc_facts.specs.world.World.{World, find_class, own_field_of, own_method_of}
use Rattle.jc_index.specs.Ids.{names}
use Rattle.jc_rows.specs.WithRows.{has_rows}

-- the number is the key's; where there is none, no number is
abbrev pub IsNumber : List Key → Key → Option ℕ → Type 0
IsNumber keys k None = (n : ℕ) → slice_get keys n ≡ Some k → ⊥
IsNumber keys k (Some n) = slice_get keys n ≡ Some k

-- no key has two numbers
abbrev pub AreDistinct : List Key → Type 0
AreDistinct keys = (n m : ℕ) (k : Key) → slice_get keys n ≡ Some k → slice_get keys m ≡ Some k → n ≡ m

-- ---- the keys of a world

-- the keys, and this one at the end where it isn't among them
abbrev pub with_key : List Key → Key → List Key
with_key keys k = cond (list_any (same_key k) keys) keys (keys ++ k ∷ [])

-- the same with the keys of all these members, one after the other
abbrev pub with_keys : List Key → List Member → List Key
with_keys keys [] = keys
with_keys keys (m ∷ ms) = with_keys (with_key keys (key_of m)) ms

-- the same with those of a class: of its fields, and then of its methods
abbrev pub with_keys_of : List Key → Option ClassFacts → List Key
with_keys_of keys None = keys
with_keys_of keys (Some c) = with_keys (with_keys keys c.fields) c.methods

-- the class of this name, where it has rows
abbrev pub class_with_rows : World → Bytes → Option ClassFacts
class_with_rows W x = cond (has_rows W x) (find_class W x) None

-- the same with those of the classes of these names that have rows
abbrev pub with_all_keys : World → List Key → List Bytes → List Key
with_all_keys W keys [] = keys
with_all_keys W keys (x ∷ xs) = with_all_keys W (with_keys_of keys (class_with_rows W x)) xs

-- the keys of the fields and methods of all classes that have rows, each where it first stands, the classes in byte order of their
-- names
unfoldable pub numbered_keys : World → List Key
numbered_keys W = with_all_keys W [] (names W)

-- the class has rows, and declares a field or a method of the key
abbrev pub declares_with_rows : World → Key → ClassFacts → Bool
declares_with_rows W k c = has_rows W c.name && (is_some (own_field_of c k) || is_some (own_method_of c k))
