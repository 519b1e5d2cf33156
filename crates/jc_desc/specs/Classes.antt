-- The classes that descriptors name (JVMS 4.3).
--     descriptor_names d x      the descriptor d, of a field or of a method, names the class x
use Rattle.std.specs.Prelude.{ℕ, Bool, false, List, Option, None, Some, ◌||◌}
use Rattle.std.specs.Str.{bytes_eq}
use Rattle.std.specs.List.{list_any}
use Rattle.jc_desc.specs.Types.{Basic, class, TypeOf, Method}
use Rattle.jc_desc.specs.Reading.{field_of, method_of}

-- the type without its array dimensions is the class x
abbrev pub is_class : List ℕ → Basic → Bool
is_class x (class name) = bytes_eq name x
is_class x _ = false

-- the type is the class x, or an array whose elements are of it
abbrev pub type_names : List ℕ → TypeOf → Bool
type_names x t = is_class x t.base

-- the same of a type, where there is one
abbrev pub some_type_names : List ℕ → Option TypeOf → Bool
some_type_names x None = false
some_type_names x (Some t) = type_names x t

-- a parameter or the result does, where there is a method's type
abbrev pub some_method_names : List ℕ → Option Method → Bool
some_method_names x None = false
some_method_names x (Some m) = list_any (type_names x) m.params || some_type_names x m.result

-- the descriptor of a field or of a method names the class x, as a type or as the element type of an array (JVMS 4.3.2, 4.3.3)
unfoldable pub descriptor_names : List ℕ → List ℕ → Bool
descriptor_names d x = some_type_names x (field_of d) || some_method_names x (method_of d)
