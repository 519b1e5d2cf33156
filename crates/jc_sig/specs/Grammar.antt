-- Which trees are of the grammar of generic signatures (JVMS 4.7.9.1): the trees for which it has a text.
--     SpellsClassSig bytes s, SpellsMethodSig bytes s, SpellsFieldSig bytes t      the bytes are the signature that this is the tree of
use Rattle.std.specs.Prelude.{◌≡◌, ℕ, zero, suc, Bool, true, false, not, ◌&&◌, ◌||◌, ◌==◌, List, IfSome, IsTrue}
use Rattle.std.specs.List.{list_all, AllByRecursion}
use Rattle.jc_desc.specs.Names.{is_byte_of_name, is_nil}
use Rattle.jc_sig.specs.Trees.{TypeTree, base, variable, array, class, ClassTree, class_tree, Parts, no_parts, part, PartTree, part_tree, Arguments, no_arguments, argument, ArgumentTree, any, exact, upper, lower, ParameterTree, ClassSigTree, MethodSigTree, type_text, class_sig_text, method_sig_text}

-- none of . ; [ / < > :
abbrev pub is_identifier_byte : ℕ → Bool
is_identifier_byte b = is_byte_of_name b && not (b == 60) && not (b == 62) && not (b == 58)

abbrev pub is_identifier : List ℕ → Bool
is_identifier name = not (is_nil name) && list_all is_identifier_byte name

-- the letter of a primitive type: B C D F I J S Z
abbrev pub is_base : ℕ → Bool
is_base b = b == 66 || b == 67 || b == 68 || b == 70 || b == 73 || b == 74 || b == 83 || b == 90

-- a type that isn't primitive
abbrev pub is_reference : TypeTree → Bool
is_reference (base letter) = false
is_reference (variable name) = true
is_reference (array t) = true
is_reference (class c) = true

-- a class type or a type variable
abbrev pub is_thrown : TypeTree → Bool
is_thrown (base letter) = false
is_thrown (variable name) = true
is_thrown (array t) = false
is_thrown (class c) = true

abbrev pub has_parts : Parts → Bool
has_parts no_parts = false
has_parts (part p ps) = true

-- At most n levels of types: a type is one, and what an array is of and what arguments are of stand a level further down.
abbrev mutual
  pub IsType : ℕ → TypeTree → Type 0
  IsType zero t = ⊥
  IsType (suc n) (base letter) = IsTrue (is_base letter)
  IsType (suc n) (variable name) = IsTrue (is_identifier name)
  IsType (suc n) (array t) = IsType n t
  IsType (suc n) (class c) = IsClass n c

  -- a class type whose arguments have at most so many levels
  pub IsClass : ℕ → ClassTree → Type 0
  IsClass n (class_tree names ps) = IsTrue (list_all is_identifier names) × IsTrue (has_parts ps) × AreParts n ps

  pub AreParts : ℕ → Parts → Type 0
  AreParts n no_parts = Unit {0}
  AreParts n (part p ps) = IsPart n p × AreParts n ps

  pub IsPart : ℕ → PartTree → Type 0
  IsPart n (part_tree name args) = IsTrue (is_identifier name) × AreArguments n args

  pub AreArguments : ℕ → Arguments → Type 0
  AreArguments n no_arguments = Unit {0}
  AreArguments n (argument a args) = IsArgument n a × AreArguments n args

  pub IsArgument : ℕ → ArgumentTree → Type 0
  IsArgument n any = Unit {0}
  IsArgument n (exact t) = IsTrue (is_reference t) × IsType n t
  IsArgument n (upper t) = IsTrue (is_reference t) × IsType n t
  IsArgument n (lower t) = IsTrue (is_reference t) × IsType n t

-- ---- signatures: types nest at most 200 deep

-- a type that stands in a signature, at depth 1
abbrev pub IsTop : TypeTree → Type 0
IsTop t = IsType 200 t

-- a class type that stands there: it is one level itself
abbrev pub IsTopClass : ClassTree → Type 0
IsTopClass c = IsClass 199 c

-- a type that stands there and isn't primitive
abbrev pub IsBound : TypeTree → Type 0
IsBound t = IsTrue (is_reference t) × IsTop t

-- what a method throws
abbrev pub IsThrown : TypeTree → Type 0
IsThrown t = IsTrue (is_thrown t) × IsTop t

pub record IsParameter (p : ParameterTree) : Type 0 where
  pub name : IsTrue (is_identifier p.name)
  pub class_bound : IfSome p.class_bound IsBound
  pub bounds : AllByRecursion IsBound p.bounds

pub record IsClassSig (s : ClassSigTree) : Type 0 where
  pub parameters : AllByRecursion IsParameter s.parameters
  pub superclass : IsTopClass s.superclass
  pub interfaces : AllByRecursion IsTopClass s.interfaces

pub record IsMethodSig (s : MethodSigTree) : Type 0 where
  pub parameters : AllByRecursion IsParameter s.parameters
  pub arguments : AllByRecursion IsTop s.arguments
  pub result : IfSome s.result IsTop
  pub throws : AllByRecursion IsThrown s.throws

-- the signature of a field (FieldSignature)
abbrev pub IsFieldSig : TypeTree → Type 0
IsFieldSig = IsBound

abbrev pub SpellsClassSig : List ℕ → ClassSigTree → Type 0
SpellsClassSig bytes s = IsClassSig s × (bytes ≡ class_sig_text s)

abbrev pub SpellsMethodSig : List ℕ → MethodSigTree → Type 0
SpellsMethodSig bytes s = IsMethodSig s × (bytes ≡ method_sig_text s)

abbrev pub SpellsFieldSig : List ℕ → TypeTree → Type 0
SpellsFieldSig bytes t = IsFieldSig t × (bytes ≡ type_text t)
