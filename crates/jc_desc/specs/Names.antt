-- Names of classes and of members (JVMS 4.2.1, 4.2.2), as lists of bytes.
use Rattle.std.specs.Prelude.{◌≡◌, ℕ, List, [], ◌∷◌, ◌++◌, Bool, true, false, ◌||◌, ◌&&◌, not, ◌==◌, IsTrue, codes, bytes_eq, if◌then◌else◌}
use Rattle.std.specs.List.{list_all}

-- none of . ; [ /
abbrev pub is_byte_of_name : ℕ → Bool
is_byte_of_name b = not (b == 46) && not (b == 59) && not (b == 91) && not (b == 47)

-- no bytes at all
abbrev pub is_nil : List ℕ → Bool
is_nil [] = true
is_nil (b ∷ bs) = false

-- ---- class names

-- one identifier of a class name
abbrev pub is_name_part : List ℕ → Bool
is_name_part part = not (is_nil part) && list_all is_byte_of_name part

-- the first part and the others, with a / between each two
abbrev pub joined_parts : List ℕ → List (List ℕ) → List ℕ
joined_parts part [] = part
joined_parts part (next ∷ others) = part ++ 47 ∷ joined_parts next others

-- a class name in its internal form: parts joined by /
pub record IsClassName (bytes : List ℕ) : Type 0 where
  pub first : List ℕ
  pub others : List (List ℕ)
  pub parts : IsTrue (list_all is_name_part (first ∷ others))
  pub whole : bytes ≡ joined_parts first others

-- what may follow, where a part has to begin here, or where one is under way
abbrev pub is_rest_of_name : Bool → List ℕ → Bool
is_rest_of_name begins [] = not begins
is_rest_of_name begins (b ∷ bs) = if b == 47 then not begins && is_rest_of_name true bs else is_byte_of_name b && is_rest_of_name false bs

-- the same as a test, byte by byte: it holds exactly where IsClassName does
abbrev pub spells_class_name : List ℕ → Bool
spells_class_name bytes = is_rest_of_name true bytes

-- ---- names of fields and methods

-- a byte of a field's name; of a method's, it isn't < or > either
abbrev pub is_byte_of_member : Bool → ℕ → Bool
is_byte_of_member method b = is_byte_of_name b && not (method && (b == 60 || b == 62))

-- the name of a constructor (JVMS 2.9.1)
abbrev pub is_init_name : List ℕ → Bool
is_init_name name = bytes_eq name (codes "<init>")

-- the name of a class initializer (JVMS 2.9.2)
abbrev pub is_clinit_name : List ℕ → Bool
is_clinit_name name = bytes_eq name (codes "<clinit>")

-- either of them
abbrev pub is_initializer_name : List ℕ → Bool
is_initializer_name name = is_init_name name || is_clinit_name name

-- the name of a method, or of a field
abbrev pub spells_member_name : List ℕ → Bool → Bool
spells_member_name bytes method = (method && is_initializer_name bytes) || (not (is_nil bytes) && list_all (is_byte_of_member method) bytes)
