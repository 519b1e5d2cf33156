-- Listings: the bytes of items that have a line and an object each.
--     lines_from printed number xs      their lines, whose numbers go on from this one
--     values_from shaped number xs      their objects, whose numbers go on from this one
--     listing_bytes json key printed shaped xs      the text, or the JSON of one object whose one key has the objects
--     part_bytes json key printed shaped xs      the same, where it is asked for
use Rattle.std.specs.Prelude.{ℕ, ◌+◌, List, [], ◌∷◌, ◌++◌, Bool, Option, Some, None, codes, if◌then◌else◌}
use Rattle.serde_json.specs.Data.{Data, array, object, Members, no_members, member as one_member}
use Rattle.serde_json.specs.View.{items_of}
use Rattle.serde_json.specs.Written.{compact_text}
use Rattle.jc_facts.specs.Names.{Bytes}

-- members, each a key and a value
abbrev pub members_of : List (Bytes × Data) → Members
members_of [] = no_members
members_of (m ∷ ms) = one_member m.0 m.1 (members_of ms)

-- the lines of items, by what each is printed as where it has a number, whose numbers go on from this one
abbrev pub lines_from : {A : Type 0} → (A → ℕ → Bytes) → ℕ → List A → Bytes
lines_from printed number [] = []
lines_from printed number (x ∷ xs) = printed x number ++ lines_from printed (number + 1) xs

-- their objects
abbrev pub values_from : {A : Type 0} → (A → ℕ → Data) → ℕ → List A → List Data
values_from shaped number [] = []
values_from shaped number (x ∷ xs) = shaped x number ∷ values_from shaped (number + 1) xs

-- one object, whose one key has these values
abbrev pub listing_json : Bytes → List Data → Data
listing_json key values = object (members_of ((key, array (items_of values)) ∷ []))

-- the text without spaces, and a line end
unfoldable pub json_line : Data → Bytes
json_line value = compact_text value ++ codes "\n"

-- the JSON of a listing where it is asked for, and else its lines, numbered from 1
abbrev pub listing_bytes : {A : Type 0} → Bool → Bytes → (A → ℕ → Bytes) → (A → ℕ → Data) → List A → Bytes
listing_bytes json key printed shaped xs = if json then json_line (listing_json key (values_from shaped 1 xs)) else lines_from printed 1 xs

-- the same of a part of a report, where it is asked for
abbrev pub part_bytes : {A : Type 0} → Bool → Bytes → (A → ℕ → Bytes) → (A → ℕ → Data) → Option (List A) → Bytes
part_bytes json key printed shaped None = []
part_bytes json key printed shaped (Some xs) = listing_bytes json key printed shaped xs
