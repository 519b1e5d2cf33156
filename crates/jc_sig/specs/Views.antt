-- Trees of signatures without where they lie in memory.
use Rattle.std.specs.Prelude.{List, [], ◌∷◌, map, option_map}
use Rattle.std.specs.Box.{box_value}
use Rattle.jc_sig.specs.declared.tree.Argument.TheOpen.{Argument-F, Any, Exact, Upper, Lower, TypeSig-F, Base, Variable, Array, Class, ClassType-F, Part-F}
use Rattle.jc_sig.specs.declared.tree.Argument.{Argument, fold-Argument}
use Rattle.jc_sig.specs.declared.tree.TypeSig.{TypeSig, fold-TypeSig}
use Rattle.jc_sig.specs.declared.tree.ClassType.{ClassType, fold-ClassType}
use Rattle.jc_sig.specs.declared.tree.Part.{Part, fold-Part}
use Rattle.jc_sig.specs.declared.tree.Parameter.{Parameter}
use Rattle.jc_sig.specs.declared.tree.ClassSig.{ClassSig}
use Rattle.jc_sig.specs.declared.tree.MethodSig.{MethodSig}
use Rattle.jc_sig.specs.Trees.{TypeTree, base, variable, array, class, ClassTree, class_tree, Parts, no_parts, part, PartTree, part_tree, Arguments, no_arguments, argument, ArgumentTree, any, exact, upper, lower, ParameterTree, ClassSigTree, MethodSigTree}

abbrev pub arguments_of : List ArgumentTree → Arguments
arguments_of [] = no_arguments
arguments_of (a ∷ args) = argument a (arguments_of args)

abbrev pub parts_of : List PartTree → Parts
parts_of [] = no_parts
parts_of (p ∷ ps) = part p (parts_of ps)

-- one level, with what stands in it already seen as trees
abbrev pub argument_step : Argument-F ArgumentTree TypeTree ClassTree PartTree → ArgumentTree
argument_step Any = any
argument_step (Exact t) = exact t
argument_step (Upper t) = upper t
argument_step (Lower t) = lower t

abbrev pub type_step : TypeSig-F ArgumentTree TypeTree ClassTree PartTree → TypeTree
type_step (Base letter) = base letter
type_step (Variable name) = variable name
type_step (Array t) = array (box_value t)
type_step (Class c) = class c

abbrev pub class_step : ClassType-F ArgumentTree TypeTree ClassTree PartTree → ClassTree
class_step c = class_tree c.package.items (parts_of c.parts.items)

abbrev pub part_step : Part-F ArgumentTree TypeTree ClassTree PartTree → PartTree
part_step p = part_tree p.name (arguments_of p.arguments.items)

abbrev pub type_view : TypeSig → TypeTree
type_view = fold-TypeSig ArgumentTree TypeTree ClassTree PartTree argument_step type_step class_step part_step

abbrev pub class_view : ClassType → ClassTree
class_view = fold-ClassType ArgumentTree TypeTree ClassTree PartTree argument_step type_step class_step part_step

abbrev pub part_view : Part → PartTree
part_view = fold-Part ArgumentTree TypeTree ClassTree PartTree argument_step type_step class_step part_step

abbrev pub argument_view : Argument → ArgumentTree
argument_view = fold-Argument ArgumentTree TypeTree ClassTree PartTree argument_step type_step class_step part_step

-- several
abbrev pub arguments_view : List Argument → Arguments
arguments_view args = arguments_of (map argument_view args)

abbrev pub parts_view : List Part → Parts
parts_view ps = parts_of (map part_view ps)

abbrev pub types_view : List TypeSig → List TypeTree
types_view ts = map type_view ts

abbrev pub classes_view : List ClassType → List ClassTree
classes_view cs = map class_view cs

-- ---- signatures

abbrev pub parameter_view : Parameter → ParameterTree
parameter_view p = record { name = p.name; class_bound = option_map type_view p.class_bound; bounds = types_view p.bounds.items }

abbrev pub parameters_view : List Parameter → List ParameterTree
parameters_view ps = map parameter_view ps

abbrev pub class_sig_view : ClassSig → ClassSigTree
class_sig_view s = record { parameters = parameters_view s.parameters.items; superclass = class_view s.superclass; interfaces = classes_view s.interfaces.items }

abbrev pub method_sig_view : MethodSig → MethodSigTree
method_sig_view s = record { parameters = parameters_view s.parameters.items; arguments = types_view s.arguments.items; result = option_map type_view s.result; throws = types_view s.throws.items }
