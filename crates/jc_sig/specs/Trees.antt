-- Generic signatures as trees, and the one text of each tree. The names in parentheses are those of JVMS 4.7.9.1.
use Rattle.std.specs.Prelude.{ℕ, List, [], ◌∷◌, ◌++◌, Option, Some, None}

mutual
  -- a type (JavaTypeSignature): a primitive one by its letter, a type variable, an array of a type, or a class type
  pub data TypeTree : Type 0 where
    base : ℕ → TypeTree
    variable : List ℕ → TypeTree
    array : TypeTree → TypeTree
    class : ClassTree → TypeTree

  -- a class type (ClassTypeSignature): the names that make up its package, then the class, and classes each of which is a member of the one before
  pub data ClassTree : Type 0 where
    class_tree : List (List ℕ) → Parts → ClassTree

  pub data Parts : Type 0 where
    no_parts : Parts
    part : PartTree → Parts → Parts

  -- the simple name of a class and its arguments (SimpleClassTypeSignature)
  pub data PartTree : Type 0 where
    part_tree : List ℕ → Arguments → PartTree

  pub data Arguments : Type 0 where
    no_arguments : Arguments
    argument : ArgumentTree → Arguments → Arguments

  -- any type, this type, any below it, any above it (TypeArgument)
  pub data ArgumentTree : Type 0 where
    any : ArgumentTree
    exact : TypeTree → ArgumentTree
    upper : TypeTree → ArgumentTree
    lower : TypeTree → ArgumentTree

-- a type parameter (TypeParameter): its name, the bound that may be a class, and those that are interfaces
pub record ParameterTree : Type 0 where
  pub name : List ℕ
  pub class_bound : Option TypeTree
  pub bounds : List TypeTree

-- the signature of a class (ClassSignature)
pub record ClassSigTree : Type 0 where
  pub parameters : List ParameterTree
  pub superclass : ClassTree
  pub interfaces : List ClassTree

-- the signature of a method (MethodSignature); a result None is void
pub record MethodSigTree : Type 0 where
  pub parameters : List ParameterTree
  pub arguments : List TypeTree
  pub result : Option TypeTree
  pub throws : List TypeTree

-- ---- texts of types

-- names, each with a / behind it
abbrev pub package_text : List (List ℕ) → List ℕ
package_text [] = []
package_text (name ∷ names) = name ++ 47 ∷ package_text names

abbrev mutual
  pub type_text : TypeTree → List ℕ
  type_text (base letter) = letter ∷ []
  type_text (variable name) = 84 ∷ (name ++ 59 ∷ [])
  type_text (array t) = 91 ∷ type_text t
  type_text (class c) = class_text c

  -- L, the package, the class and its members with a . between each two, and a ;
  pub class_text : ClassTree → List ℕ
  class_text (class_tree names ps) = 76 ∷ (package_text names ++ (parts_text ps ++ 59 ∷ []))

  pub parts_text : Parts → List ℕ
  parts_text no_parts = []
  parts_text (part p ps) = part_text p ++ members_text ps

  -- with a . before each
  pub members_text : Parts → List ℕ
  members_text no_parts = []
  members_text (part p ps) = 46 ∷ (part_text p ++ members_text ps)

  pub part_text : PartTree → List ℕ
  part_text (part_tree name args) = name ++ arguments_text args

  -- nothing, or one argument or more between < and >
  pub arguments_text : Arguments → List ℕ
  arguments_text no_arguments = []
  arguments_text (argument a args) = 60 ∷ (argument_text a ++ (list_text args ++ 62 ∷ []))

  pub list_text : Arguments → List ℕ
  list_text no_arguments = []
  list_text (argument a args) = argument_text a ++ list_text args

  pub argument_text : ArgumentTree → List ℕ
  argument_text any = 42 ∷ []
  argument_text (exact t) = type_text t
  argument_text (upper t) = 43 ∷ type_text t
  argument_text (lower t) = 45 ∷ type_text t

-- ---- texts of signatures

-- types, one after the other
abbrev pub types_text : List TypeTree → List ℕ
types_text [] = []
types_text (t ∷ ts) = type_text t ++ types_text ts

-- class types, one after the other
abbrev pub classes_text : List ClassTree → List ℕ
classes_text [] = []
classes_text (c ∷ cs) = class_text c ++ classes_text cs

-- the bound that may be a class, where there is one
abbrev pub bound_text : Option TypeTree → List ℕ
bound_text None = []
bound_text (Some t) = type_text t

-- bounds that are interfaces, with a : before each
abbrev pub bounds_text : List TypeTree → List ℕ
bounds_text [] = []
bounds_text (t ∷ ts) = 58 ∷ (type_text t ++ bounds_text ts)

abbrev pub parameter_text : ParameterTree → List ℕ
parameter_text p = p.name ++ 58 ∷ (bound_text p.class_bound ++ bounds_text p.bounds)

-- type parameters, one after the other
abbrev pub parameters_text : List ParameterTree → List ℕ
parameters_text [] = []
parameters_text (p ∷ ps) = parameter_text p ++ parameters_text ps

-- nothing, or one type parameter or more between < and >
abbrev pub type_parameters_text : List ParameterTree → List ℕ
type_parameters_text [] = []
type_parameters_text (p ∷ ps) = 60 ∷ (parameter_text p ++ (parameters_text ps ++ 62 ∷ []))

-- V where there is no result
abbrev pub result_text : Option TypeTree → List ℕ
result_text None = 86 ∷ []
result_text (Some t) = type_text t

-- what is thrown, with a ^ before each
abbrev pub throws_text : List TypeTree → List ℕ
throws_text [] = []
throws_text (t ∷ ts) = 94 ∷ (type_text t ++ throws_text ts)

abbrev pub class_sig_text : ClassSigTree → List ℕ
class_sig_text s = type_parameters_text s.parameters ++ (class_text s.superclass ++ classes_text s.interfaces)

abbrev pub method_sig_text : MethodSigTree → List ℕ
method_sig_text s = type_parameters_text s.parameters ++ 40 ∷ (types_text s.arguments ++ 41 ∷ (result_text s.result ++ throws_text s.throws))
