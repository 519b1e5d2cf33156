-- Type texts: a class name, or an array descriptor (JVMS 4.3.2, 4.4.1).
--     type_read x      the type that the text describes, none where it is an ill-formed array
use Rattle.std.specs.Prelude.{ℕ, Bool, false, cond, [], ◌∷◌, Option, None, Some, ◌==◌}
use Rattle.jc_desc.specs.Types.{Basic, byte, char, double, float, int, long, short, boolean, class, TypeOf}
use Rattle.jc_desc.specs.Reading.{field_of}
use Rattle.jc_facts.specs.Names.{Bytes}

-- what an array's elements are: a primitive type by its letter, or a class
pub data Element : Type 0 where
  Primitive : ℕ → Element
  Class : Bytes → Element

-- a type: of so many dimensions, of 0 a class
pub record TypeText : Type 0 where
  pub dims : ℕ
  pub element : Element

-- the element type of a descriptor (JVMS 4.3.2, table 4.3-A)
abbrev pub element_of : Basic → Element
element_of byte = Primitive 66
element_of char = Primitive 67
element_of double = Primitive 68
element_of float = Primitive 70
element_of int = Primitive 73
element_of long = Primitive 74
element_of short = Primitive 83
element_of boolean = Primitive 90
element_of (class name) = Class name

-- the text is to be read as that of an array: it begins with [
abbrev pub is_array_text : Bytes → Bool
is_array_text [] = false
is_array_text (b ∷ bs) = b == 91

-- the array type of a descriptor, where it is one
abbrev pub array_type : Option TypeOf → Option TypeText
array_type None = None
array_type (Some t) = Some (record { dims = t.dims; element = element_of t.base })

-- the type that the text describes: an array where it begins with [ and is a descriptor, none where it begins so and isn't,
-- else the class of this name (JVMS 4.4.1)
unfoldable pub type_read : Bytes → Option TypeText
type_read x = cond (is_array_text x) (array_type (field_of x)) (Some (record { dims = 0; element = Class x }))
