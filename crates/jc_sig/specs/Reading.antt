-- Reading generic signatures from the front of bytes: what is read and the bytes behind it, or None. Grammar.antt says what a signature is, without
-- looking ahead; the laws of signatures say that these read exactly that.
use Rattle.std.specs.Prelude.{ℕ, zero, suc, Bool, true, false, ◌&&◌, ◌||◌, ◌==◌, List, [], ◌∷◌, length, take, drop, Option, Some, None, if◌then◌else◌}
use Rattle.std.specs.List.{prefix_len}
use Rattle.jc_desc.specs.Names.{is_nil}
use Rattle.jc_desc.specs.Reading.{◌>>=◌, whole}
use Rattle.jc_sig.specs.Trees.{TypeTree, base, variable, array, class, ClassTree, class_tree, Parts, no_parts, part, PartTree, part_tree, Arguments, no_arguments, argument, ArgumentTree, any, exact, upper, lower, ParameterTree, ClassSigTree, MethodSigTree}
use Rattle.jc_sig.specs.Grammar.{is_identifier_byte, is_base, is_reference, is_thrown}

-- what is read, and the bytes behind it
abbrev pub Read : Type 0 → Type 0
Read A = Option (A × List ℕ)

-- ---- identifiers

-- what follows this byte, where it stands in front
abbrev pub behind : ℕ → List ℕ → Option (List ℕ)
behind byte [] = None
behind byte (b ∷ bs) = if b == byte then Some bs else None

-- how many bytes of an identifier stand in front
abbrev pub name_len : List ℕ → ℕ
name_len bytes = prefix_len is_identifier_byte bytes

-- an identifier: all bytes up to the first that can't be of it
unfoldable pub name_from : List ℕ → Read (List ℕ)
name_from bytes = if name_len bytes == 0 then None else Some (take (name_len bytes) bytes, drop (name_len bytes) bytes)

-- an identifier and this byte behind it
unfoldable pub name_before : ℕ → List ℕ → Read (List ℕ)
name_before byte bytes = do
  name ← name_from bytes
  rest ← behind byte name.1
  Some (name.0, rest)

-- the names up to one that has no / behind it
abbrev pub more_names : (List ℕ → List (List ℕ) × List ℕ) → List ℕ → Read (List ℕ) → List (List ℕ) × List ℕ
more_names more bytes None = ([], bytes)
more_names more bytes (Some x) = (x.0 ∷ (more x.1).0, (more x.1).1)

-- the same, at most n of them
unfoldable pub package_from : ℕ → List ℕ → List (List ℕ) × List ℕ
package_from zero bytes = ([], bytes)
package_from (suc n) bytes = more_names (package_from n) bytes (name_before 47 bytes)

-- ---- types; `type` reads those a level further down

abbrev pub ReadType : Type 0
ReadType = List ℕ → Read TypeTree

-- a type that isn't primitive
unfoldable pub reference_from : ReadType → ReadType
reference_from type bytes = do
  t ← type bytes
  if is_reference t.0 then Some t else None

abbrev pub exact_from : ReadType → List ℕ → Read ArgumentTree
exact_from type bytes = do
  t ← reference_from type bytes
  Some (exact t.0, t.1)

abbrev pub upper_from : ReadType → List ℕ → Read ArgumentTree
upper_from type bytes = do
  t ← reference_from type bytes
  Some (upper t.0, t.1)

abbrev pub lower_from : ReadType → List ℕ → Read ArgumentTree
lower_from type bytes = do
  t ← reference_from type bytes
  Some (lower t.0, t.1)

unfoldable pub argument_from : ReadType → List ℕ → Read ArgumentTree
argument_from type [] = None
argument_from type (b ∷ bs) =
    if b == 42 then Some (any, bs)
    else if b == 43 then upper_from type bs
    else if b == 45 then lower_from type bs
    else exact_from type (b ∷ bs)

-- nothing more where the end was read, else these
abbrev pub ended_or : {A : Type 0} → A → Option (List ℕ) → Read A → Read A
ended_or nothing None more = more
ended_or nothing (Some rest) more = Some (nothing, rest)

-- arguments up to a >, of which fewer than n come
unfoldable pub list_from : ReadType → ℕ → List ℕ → Read Arguments
list_from type zero bytes = None
list_from type (suc n) bytes = ended_or no_arguments (behind 62 bytes) (do
  a ← argument_from type bytes
  more ← list_from type n a.1
  Some (argument a.0 more.0, more.1))

-- what was read, where it is something
abbrev pub some_arguments : Arguments × List ℕ → Read Arguments
some_arguments (no_arguments, rest) = None
some_arguments (argument a more, rest) = Some (argument a more, rest)

-- behind a <, at least one argument; nothing where there is none
abbrev pub arguments_behind : ReadType → List ℕ → Option (List ℕ) → Read Arguments
arguments_behind type bytes None = Some (no_arguments, bytes)
arguments_behind type bytes (Some rest) = list_from type (length rest) rest >>= some_arguments

unfoldable pub arguments_from : ReadType → List ℕ → Read Arguments
arguments_from type bytes = arguments_behind type bytes (behind 60 bytes)

unfoldable pub part_from : ReadType → List ℕ → Read PartTree
part_from type bytes = do
  name ← name_from bytes
  args ← arguments_from type name.1
  Some (part_tree name.0 args.0, args.1)

-- the part, and those behind a .
abbrev pub parts_behind : (List ℕ → Read Parts) → PartTree × List ℕ → Option (List ℕ) → Read Parts
parts_behind more p None = Some (part p.0 no_parts, p.1)
parts_behind more p (Some rest) = do
  ps ← more rest
  Some (part p.0 ps.0, ps.1)

-- parts with a . between each two, at most n of them
unfoldable pub parts_from : ReadType → ℕ → List ℕ → Read Parts
parts_from type zero bytes = None
parts_from type (suc n) bytes = do
  p ← part_from type bytes
  parts_behind (parts_from type n) p (behind 46 p.1)

-- the parts behind these names, and a ;
abbrev pub class_behind : ReadType → List (List ℕ) × List ℕ → Read ClassTree
class_behind type front = do
  ps ← parts_from type (length front.1) front.1
  rest ← behind 59 ps.1
  Some (class_tree front.0 ps.0, rest)

-- a class type behind its L
unfoldable pub class_from : ReadType → List ℕ → Read ClassTree
class_from type bytes = class_behind type (package_from (length bytes) bytes)

-- what follows a T, a [ and an L
abbrev pub variable_from : List ℕ → Read TypeTree
variable_from bytes = do
  name ← name_before 59 bytes
  Some (variable name.0, name.1)

abbrev pub array_from : ReadType → List ℕ → Read TypeTree
array_from type bytes = do
  t ← type bytes
  Some (array t.0, t.1)

abbrev pub class_type_from : ReadType → List ℕ → Read TypeTree
class_type_from type bytes = do
  c ← class_from type bytes
  Some (class c.0, c.1)

-- a type by its first byte
abbrev pub type_by : ReadType → List ℕ → Read TypeTree
type_by type [] = None
type_by type (b ∷ bs) =
    if is_base b then Some (base b, bs)
    else if b == 84 then variable_from bs
    else if b == 91 then array_from type bs
    else if b == 76 then class_type_from type bs
    else None

-- a type of at most n levels
unfoldable pub type_from : ℕ → ReadType
type_from zero bytes = None
type_from (suc n) bytes = type_by (type_from n) bytes

-- ---- signatures

-- a type of a signature
abbrev pub top_from : ReadType
top_from = type_from 200

-- the class type that was read
abbrev pub only_class : TypeTree × List ℕ → Read ClassTree
only_class (base letter, rest) = None
only_class (variable name, rest) = None
only_class (array t, rest) = None
only_class (class c, rest) = Some (c, rest)

unfoldable pub top_class_from : List ℕ → Read ClassTree
top_class_from bytes = top_from bytes >>= only_class

-- a [ stands in front, or an L or a T that isn't of a name with a : behind it
abbrev pub not_before_colon : Option (List ℕ) → Bool
not_before_colon None = true
not_before_colon (Some rest) = false

abbrev pub begins_bound : List ℕ → Bool
begins_bound [] = false
begins_bound (b ∷ bs) = b == 91 || ((b == 76 || b == 84) && not_before_colon (behind 58 (drop (name_len (b ∷ bs)) (b ∷ bs))))

abbrev pub some_bound_from : List ℕ → Read (Option TypeTree)
some_bound_from bytes = do
  t ← reference_from top_from bytes
  Some (Some t.0, t.1)

-- the bound that may be a class, behind the first :
unfoldable pub class_bound_from : List ℕ → Read (Option TypeTree)
class_bound_from bytes = if begins_bound bytes then some_bound_from bytes else Some (None, bytes)

-- nothing more where this byte isn't in front, else these
abbrev pub none_or : {A : Type 0} → List ℕ → Option (List ℕ) → (List ℕ → Read (List A)) → Read (List A)
none_or bytes None more = Some ([], bytes)
none_or bytes (Some rest) more = more rest

-- bounds with a : before each, at most n of them
unfoldable pub bounds_from : ℕ → List ℕ → Read (List TypeTree)
bounds_from zero bytes = Some ([], bytes)
bounds_from (suc n) bytes = none_or bytes (behind 58 bytes) (λ rest. do
  t ← reference_from top_from rest
  more ← bounds_from n t.1
  Some (t.0 ∷ more.0, more.1))

unfoldable pub parameter_from : List ℕ → Read ParameterTree
parameter_from bytes = do
  name ← name_before 58 bytes
  bound ← class_bound_from name.1
  bounds ← bounds_from (length bound.1) bound.1
  Some (record { name = name.0; class_bound = bound.0; bounds = bounds.0 }, bounds.1)

-- type parameters up to a >, of which fewer than n come
unfoldable pub parameters_from : ℕ → List ℕ → Read (List ParameterTree)
parameters_from zero bytes = None
parameters_from (suc n) bytes = ended_or [] (behind 62 bytes) (do
  p ← parameter_from bytes
  more ← parameters_from n p.1
  Some (p.0 ∷ more.0, more.1))

-- what was read, where it is something
abbrev pub some_of : {A : Type 0} → List A × List ℕ → Read (List A)
some_of ([], rest) = None
some_of (x ∷ xs, rest) = Some (x ∷ xs, rest)

abbrev pub type_parameters_behind : List ℕ → Option (List ℕ) → Read (List ParameterTree)
type_parameters_behind bytes None = Some ([], bytes)
type_parameters_behind bytes (Some rest) = parameters_from (length rest) rest >>= some_of

-- behind a <, at least one type parameter; nothing where there is none
unfoldable pub type_parameters_from : List ℕ → Read (List ParameterTree)
type_parameters_from bytes = type_parameters_behind bytes (behind 60 bytes)

-- class types up to the end, at most n of them
unfoldable pub classes_of : ℕ → List ℕ → Option (List ClassTree)
classes_of zero bytes = if is_nil bytes then Some [] else None
classes_of (suc n) bytes = if is_nil bytes then Some [] else (do
  c ← top_class_from bytes
  more ← classes_of n c.1
  Some (c.0 ∷ more))

-- the signature of a class of which all these bytes are the text
unfoldable pub class_sig_of : List ℕ → Option ClassSigTree
class_sig_of bytes = do
  parameters ← type_parameters_from bytes
  superclass ← top_class_from parameters.1
  interfaces ← classes_of (length superclass.1) superclass.1
  Some (record { parameters = parameters.0; superclass = superclass.0; interfaces = interfaces })

-- types up to a ), of which fewer than n come
unfoldable pub types_from : ℕ → List ℕ → Read (List TypeTree)
types_from zero bytes = None
types_from (suc n) bytes = ended_or [] (behind 41 bytes) (do
  t ← top_from bytes
  more ← types_from n t.1
  Some (t.0 ∷ more.0, more.1))

abbrev pub result_behind : List ℕ → Option (List ℕ) → Read (Option TypeTree)
result_behind bytes None = do
  t ← top_from bytes
  Some (Some t.0, t.1)
result_behind bytes (Some rest) = Some (None, rest)

-- V, or a type
unfoldable pub result_from : List ℕ → Read (Option TypeTree)
result_from bytes = result_behind bytes (behind 86 bytes)

unfoldable pub thrown_from : List ℕ → Read TypeTree
thrown_from bytes = do
  rest ← behind 94 bytes
  t ← top_from rest
  if is_thrown t.0 then Some t else None

-- what is thrown, up to the end, at most n of them
unfoldable pub throws_of : ℕ → List ℕ → Option (List TypeTree)
throws_of zero bytes = if is_nil bytes then Some [] else None
throws_of (suc n) bytes = if is_nil bytes then Some [] else (do
  t ← thrown_from bytes
  more ← throws_of n t.1
  Some (t.0 ∷ more))

-- the signature of a method of which all these bytes are the text
unfoldable pub method_sig_of : List ℕ → Option MethodSigTree
method_sig_of bytes = do
  parameters ← type_parameters_from bytes
  rest ← behind 40 parameters.1
  arguments ← types_from (length rest) rest
  result ← result_from arguments.1
  throws ← throws_of (length result.1) result.1
  Some (record { parameters = parameters.0; arguments = arguments.0; result = result.0; throws = throws })

-- the signature of a field of which all these bytes are the text
unfoldable pub field_sig_of : List ℕ → Option TypeTree
field_sig_of bytes = whole (reference_from top_from bytes)
