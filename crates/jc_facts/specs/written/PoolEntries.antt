-- The constant pool of a class file that is written (JVMS 4.4): its entries by what they say, and their bytes. An entry names others
-- by what they say, and only its bytes have their indices.
--     collected pool es      the pool, and behind it each of the entries that isn't there yet
--     with_parts e      an entry, behind its parts: the entries that it names
--     index_of e pool      the index of an entry
--     entries_bytes pool      the bytes of all entries
use Rattle.std.specs.Prelude.{ℕ, suc, List, [], ◌∷◌, ◌++◌, length, Bool, true, false, ◌==◌, ◌&&◌, nat_le, if◌then◌else◌}
use Rattle.std.specs.List.{list_any, position_or_len}
use Rattle.byteorder.specs.Endian.{big_bytes}
use Rattle.jc_desc.specs.declared.limits.TheConstants.{MAX_TEXT}
use Rattle.jc_desc.specs.Utf8.{is_modified_utf8}
use Rattle.jc_desc.specs.Pool.{names_class, names_any_member, describes_field, names_used_method}
use Rattle.jc_desc.specs.Tags as tags
use Rattle.jc_facts.specs.Names.{Bytes, same}

-- ---- numbers and lists as bytes

-- a number in two bytes, and in four, the highest first (JVMS 4)
abbrev pub two : ℕ → Bytes
two n = big_bytes 2 n

abbrev pub four : ℕ → Bytes
four n = big_bytes 4 n

-- the bytes of each, one after the other
abbrev pub joined : {A : Type 0} → (A → Bytes) → List A → Bytes
joined f [] = []
joined f (x ∷ xs) = f x ++ joined f xs

-- their number in two bytes, and the bytes of each
abbrev pub counted : {A : Type 0} → (A → Bytes) → List A → Bytes
counted f xs = two (length xs) ++ joined f xs

-- ---- entries

-- a Utf8 by its text (JVMS 4.4.7); a Class by its name (JVMS 4.4.1); a NameAndType by its name and descriptor (JVMS 4.4.6); a
-- Fieldref, Methodref or InterfaceMethodref by its tag, and the class, name and descriptor of the member (JVMS 4.4.2)
pub data PoolEntry : Type 0 where
  text : Bytes → PoolEntry
  class : Bytes → PoolEntry
  pair : Bytes → Bytes → PoolEntry
  member : ℕ → Bytes → Bytes → Bytes → PoolEntry

-- the two say the same
abbrev pub same_entry : PoolEntry → PoolEntry → Bool
same_entry (text a) (text b) = same a b
same_entry (class a) (class b) = same a b
same_entry (pair a b) (pair c d) = same a c && same b d
same_entry (member t a b c) (member u d e f) = t == u && same a d && same b e && same c f
same_entry _ _ = false

-- the entry stands in the pool
abbrev pub has : List PoolEntry → PoolEntry → Bool
has pool e = list_any (same_entry e) pool

-- the pool with this entry, which stands behind the others where it isn't there yet
abbrev pub add : List PoolEntry → PoolEntry → List PoolEntry
add pool e = if has pool e then pool else pool ++ e ∷ []

-- the same with each of these in order
abbrev pub collected : List PoolEntry → List PoolEntry → List PoolEntry
collected pool [] = pool
collected pool (e ∷ es) = collected (add pool e) es

-- an entry, behind its parts: of a reference to a member the text of its class, the class, the name, the descriptor, and both together
abbrev pub with_parts : PoolEntry → List PoolEntry
with_parts (text t) = text t ∷ []
with_parts (class c) = text c ∷ class c ∷ []
with_parts (pair n d) = text n ∷ text d ∷ pair n d ∷ []
with_parts (member t c n d) = text c ∷ class c ∷ text n ∷ text d ∷ pair n d ∷ member t c n d ∷ []

-- each of these, behind its parts
abbrev pub all_parts : List PoolEntry → List PoolEntry
all_parts [] = []
all_parts (e ∷ es) = with_parts e ++ all_parts es

-- indices count from 1 (JVMS 4.1, constant_pool)
abbrev pub index_of : List PoolEntry → PoolEntry → ℕ
index_of pool e = suc (position_or_len (same_entry e) pool)

-- ---- their bytes

abbrev pub tag_of : PoolEntry → ℕ
tag_of (text t) = tags.utf8
tag_of (class c) = tags.class
tag_of (pair n d) = tags.name_and_type
tag_of (member t c n d) = t

-- the indices of its parts; of a Utf8 its text
abbrev pub body_of : List PoolEntry → PoolEntry → Bytes
body_of pool (text t) = t
body_of pool (class c) = two (index_of pool (text c))
body_of pool (pair n d) = two (index_of pool (text n)) ++ two (index_of pool (text d))
body_of pool (member t c n d) = two (index_of pool (class c)) ++ two (index_of pool (pair n d))

-- a text has its length before it
abbrev pub length_before : PoolEntry → Bytes
length_before (text t) = two (length t)
length_before (class c) = []
length_before (pair n d) = []
length_before (member t c n d) = []

-- cp_info (JVMS 4.4)
abbrev pub entry_bytes : List PoolEntry → PoolEntry → Bytes
entry_bytes pool e = tag_of e ∷ (length_before e ++ body_of pool e)

unfoldable pub entries_bytes : List PoolEntry → Bytes
entries_bytes pool = joined (entry_bytes pool) pool

-- ---- what is asked of them

-- a reference has a descriptor of its kind, and a method a name that may be called (JVMS 4.4.2); no other tag is one of a reference
abbrev pub use_is_good : ℕ → Bytes → Bytes → Bool
use_is_good tag name descriptor =
    if tag == tags.field_ref then describes_field descriptor
    else if tag == tags.method_ref then names_used_method false name descriptor
    else if tag == tags.interface_method_ref then names_used_method true name descriptor
    else false

-- the name of a Class: modified UTF-8, and a class name or the descriptor of an array (JVMS 4.4.1, 4.4.7)
abbrev pub class_is_good : Bytes → Bool
class_is_good name = is_modified_utf8 name && names_class name

-- name and descriptor of a NameAndType: modified UTF-8, and each of a field or of a method (JVMS 4.4.6, 4.4.7)
abbrev pub pair_is_good : Bytes → Bytes → Bool
pair_is_good name descriptor = is_modified_utf8 name && is_modified_utf8 descriptor && names_any_member name descriptor

-- texts have the shapes of texts, and names and descriptors the forms that JVMS 4.4.1 to 4.4.7 ask for
abbrev pub is_good : PoolEntry → Bool
is_good (text t) = is_modified_utf8 t
is_good (class c) = class_is_good c
is_good (pair n d) = pair_is_good n d
is_good (member t c n d) = class_is_good c && pair_is_good n d && use_is_good t n d

-- the length of a text fits into two bytes (JVMS 4.4.7)
abbrev pub fits : PoolEntry → Bool
fits (text t) = nat_le (length t) MAX_TEXT
fits (class c) = true
fits (pair n d) = true
fits (member t c n d) = true
