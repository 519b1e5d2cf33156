-- Resolution of fields and methods (JVMS 5.4.3.2 to 5.4.3.4).
--     field_found W x k      the field that a reference to the class x finds
--     MethodFound W x k m      a method that a reference to the class x finds
use Rattle.std.specs.Prelude.{Bool, not, cond, List, [], ◌∷◌, ◌++◌, Option, None, Some, ◌||◌, ◌&&◌, true, false}
use Rattle.std.specs.List.{list_any, list_all, filter, Contains}
use Rattle.jc_facts.specs.declared.class_facts.ClassFacts.{ClassFacts}
use Rattle.jc_facts.specs.declared.key.Key.{Key}
use Rattle.jc_facts.specs.Names.{Bytes, same, object_name}
use Rattle.jc_facts.specs.Flags.{public_flag, private_flag, static_flag, abstract_flag, no_static_flag}
use Rattle.jc_facts.specs.Options.{or_else, first_some, and_then}
use Rattle.jc_facts.specs.world.World.{World, find_class, size, own_field_of, own_method_of, DeclaredMember, found_in, declared_method}
use Rattle.jc_facts.specs.world.Search.{descend}
use Rattle.jc_facts.specs.world.Hierarchy.{chain, superinterfaces, is_superinterface}

-- ---- fields

-- the class's own, then what its interfaces give, in order, then what its superclass gives
unfoldable pub field_step : Key → (Bytes → Option DeclaredMember) → ClassFacts → Option DeclaredMember
field_step k above c = or_else (found_in c (own_field_of c k)) (or_else (first_some above c.interfaces) (and_then above c.superclass))

-- the field of the key that a reference to the class x finds, or none (JVMS 5.4.3.2)
unfoldable pub field_found : World → Bytes → Key → Option DeclaredMember
field_found W x k = descend W None None (field_step k) (size W) x

-- ---- the chain

-- the method of the first of these classes that declares the key, whatever its flags
unfoldable pub first_declared : Key → List ClassFacts → Option DeclaredMember
first_declared k [] = None
first_declared k (c ∷ cs) = or_else (found_in c (own_method_of c k)) (first_declared k cs)

-- ---- superinterfaces

-- the method, where it is neither private nor static
unfoldable pub if_inheritable : Option DeclaredMember → List DeclaredMember
if_inheritable None = []
if_inheritable (Some m) = cond (private_flag m.member.flags || static_flag m.member.flags) [] (m ∷ [])

-- the methods of the key, neither private nor static, that these classes declare
unfoldable pub declared_by : Key → List ClassFacts → List DeclaredMember
declared_by k [] = []
declared_by k (c ∷ cs) = if_inheritable (found_in c (own_method_of c k)) ++ declared_by k cs

-- m is maximally specific: none of them is of another class that has m's among its superinterfaces (JVMS 5.4.3.3)
abbrev pub is_maximal : World → List DeclaredMember → DeclaredMember → Bool
is_maximal W all m = not (list_any (λ o. not (same o.owner m.owner) && is_superinterface W o.owner m.owner) all)

-- the method isn't abstract
abbrev pub is_concrete : DeclaredMember → Bool
is_concrete m = not (abstract_flag m.member.flags)

-- the method of the first list, where it holds one of one class, else the second list
unfoldable pub only_or : List DeclaredMember → List DeclaredMember → List DeclaredMember
only_or [] all = all
only_or (m ∷ ms) all = cond (list_all (λ o. same o.owner m.owner) ms) (m ∷ []) all

-- what the superinterfaces may give: the one maximally specific method that isn't abstract, where there is exactly one,
-- else any of their methods that is neither private nor static (JVMS 5.4.3.3, 5.4.3.4)
unfoldable pub superinterface_choices : World → Bytes → Key → List DeclaredMember
superinterface_choices W x k =
    let all = declared_by k (superinterfaces W x) in
    only_or (filter is_concrete (filter (is_maximal W all) all)) all

-- the method, where there is one, else any of the list
unfoldable pub or_choices : Option DeclaredMember → List DeclaredMember → List DeclaredMember
or_choices None ms = ms
or_choices (Some m) ms = m ∷ []

-- ---- methods of classes

-- what a reference to the class x may find, nothing where it finds none: the method of the first class of the chain that declares
-- the key, else what the superinterfaces give (JVMS 5.4.3.3)
unfoldable pub method_choices : World → Bytes → Key → List DeclaredMember
method_choices W x k = or_choices (first_declared k (chain W x)) (superinterface_choices W x k)

-- m is a method that a reference to the class x finds
abbrev pub MethodFound : World → Bytes → Key → DeclaredMember → Type 0
MethodFound W x k m = Contains (method_choices W x k) m

-- ---- methods of interfaces

-- the method, where it is a public instance method
unfoldable pub if_public_instance : DeclaredMember → Option DeclaredMember
if_public_instance m = cond (public_flag m.member.flags && no_static_flag m.member.flags) (Some m) None

-- the public instance method of the key that java/lang/Object declares
unfoldable pub public_method_of_object : World → Key → Option DeclaredMember
public_method_of_object W k = and_then if_public_instance (and_then (declared_method k) (find_class W object_name))

-- what a reference to the interface x may find, nothing where it finds none: its own method, else a public instance method of
-- java/lang/Object, else what the superinterfaces give (JVMS 5.4.3.4)
unfoldable pub interface_choices : World → Bytes → Key → List DeclaredMember
interface_choices W x k = or_choices (or_else (and_then (declared_method k) (find_class W x)) (public_method_of_object W k)) (superinterface_choices W x k)

-- ---- of what is found

-- nothing is found
abbrev pub are_none : List DeclaredMember → Bool
are_none [] = true
are_none (m ∷ ms) = false
