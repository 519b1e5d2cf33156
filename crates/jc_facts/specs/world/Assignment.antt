-- Assignment (JVMS 4.10.1.2), and the check on protected members.
--     is_assignable W s t      the type of the text s is assignable to that of t
--     passes_protected_check W x n m s      a receiver of type s may be used for the member m, named through n, in the class x
use Rattle.std.specs.Prelude.{ℕ, zero, suc, Bool, false, not, [], ◌∷◌, Option, None, Some, ◌==◌, ◌||◌, ◌&&◌, codes}
use Rattle.jc_facts.specs.Names.{Bytes, same, is_name_among, in_same_package, object_name}
use Rattle.jc_facts.specs.Flags.{interface_flag, protected_flag}
use Rattle.jc_facts.specs.world.Types.{Element, Primitive, Class, TypeText, type_read}
use Rattle.jc_facts.specs.Options.{some_and}
use Rattle.jc_facts.specs.world.World.{World, find_class, DeclaredMember}
use Rattle.jc_facts.specs.world.Hierarchy.{in_chain}

-- the class of this name is an interface of the world
abbrev pub is_interface_of : World → Bytes → Bool
is_interface_of W x = some_and (λ c. interface_flag c.flags) (find_class W x)

-- of classes: they are equal, or the second is an interface, or is in the chain of the first (JVMS 4.10.1.2)
abbrev pub is_class_assignable : World → Bytes → Bytes → Bool
is_class_assignable W s t = same s t || is_interface_of W t || in_chain W s t

-- the three classes that every array is assignable to (JVMS 4.10.1.2)
abbrev pub takes_any_array : Element → Bool
takes_any_array (Primitive x) = false
takes_any_array (Class t) = is_name_among (object_name ∷ codes "java/lang/Cloneable" ∷ codes "java/io/Serializable" ∷ []) t

-- of equal dimensions: equal primitives, or classes that are assignable
abbrev pub is_element_assignable : World → Element → Element → Bool
is_element_assignable W (Primitive x) (Primitive y) = x == y
is_element_assignable W (Class s) (Class t) = is_class_assignable W s t
is_element_assignable W (Class s) (Primitive y) = false
is_element_assignable W (Primitive x) (Class t) = false

-- by dimensions and elements: arrays go by their components (JVMS 4.10.1.2)
unfoldable pub assign_to : World → ℕ → Element → ℕ → Element → Bool
assign_to W zero s zero t = is_element_assignable W s t
assign_to W zero s (suc e) t = false
assign_to W (suc d) s zero t = takes_any_array t
assign_to W (suc d) s (suc e) t = assign_to W d s e t

-- an ill-formed array is assignable to nothing and from nothing
abbrev pub assign_types : World → Option TypeText → Option TypeText → Bool
assign_types W None b = false
assign_types W (Some a) None = false
assign_types W (Some a) (Some b) = assign_to W a.dims a.element b.dims b.element

-- the type of the text s is assignable to that of the text t (JVMS 4.10.1.2)
unfoldable pub is_assignable : World → Bytes → Bytes → Bool
is_assignable W s t = assign_types W (type_read s) (type_read t)

-- a receiver of type s may be used for the member found, which is named through n in the class x: where n is in the chain of x and
-- the member is protected and declared in another package, s is assignable to x (this project's own form, after JVMS 4.10.1.8)
unfoldable pub passes_protected_check : World → Bytes → Bytes → DeclaredMember → Bytes → Bool
passes_protected_check W x n m s = not (in_chain W x n && protected_flag m.member.flags && not (in_same_package m.owner x)) || is_assignable W s x
