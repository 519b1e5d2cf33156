-- The clients above a client, and the class that a type names.
--     chain_of cs x      the client x, its superclass where that is a client, and so on
--     above_of cs x      these, each with the clients among the interfaces that it names itself
--     class_in t      the class that a type names, of an array that of its elements
use Rattle.std.specs.Prelude.{ℕ, zero, suc, List, [], ◌∷◌, ◌++◌, length, Option, None, Some}
use Rattle.jc_facts.specs.declared.class_facts.ClassFacts.{ClassFacts}
use Rattle.jc_facts.specs.Names.{Bytes}
use Rattle.jc_facts.specs.Options.{and_then}
use Rattle.jc_facts.specs.world.Types.{Element, Primitive, Class, TypeText, type_read}
use Rattle.jc_facts.specs.world.World.{class_named}

-- ---- by superclasses

-- the client that is there, its superclass where that is a client, and so on, n of them at most
abbrev pub chain_to : List ClassFacts → ℕ → Option ClassFacts → List ClassFacts
chain_to cs zero o = []
chain_to cs (suc n) None = []
chain_to cs (suc n) (Some c) = c ∷ chain_to cs n (and_then (class_named cs) c.superclass)

-- those of the client x. Nothing where x is no client
unfoldable pub chain_of : List ClassFacts → Bytes → List ClassFacts
chain_of cs x = chain_to cs (length cs) (class_named cs x)

-- ---- with interfaces

abbrev pub listed_or : Option ClassFacts → List ClassFacts → List ClassFacts
listed_or None more = more
listed_or (Some c) more = c ∷ more

-- the clients among these names
abbrev pub clients_among : List ClassFacts → List Bytes → List ClassFacts
clients_among cs [] = []
clients_among cs (i ∷ is) = listed_or (class_named cs i) (clients_among cs is)

-- each of these, and then the clients among the interfaces that it names
abbrev pub with_own_interfaces : List ClassFacts → List ClassFacts → List ClassFacts
with_own_interfaces cs [] = []
with_own_interfaces cs (c ∷ more) = c ∷ clients_among cs c.interfaces ++ with_own_interfaces cs more

unfoldable pub above_of : List ClassFacts → Bytes → List ClassFacts
above_of cs x = with_own_interfaces cs (chain_of cs x)

-- ---- types

abbrev pub class_of_element : Element → Option Bytes
class_of_element (Primitive p) = None
class_of_element (Class c) = Some c

abbrev pub class_of_type : Option TypeText → Option Bytes
class_of_type None = None
class_of_type (Some t) = class_of_element t.element

-- none where the type is primitive, or an ill-formed array (JVMS 4.3.2, 4.4.1)
unfoldable pub class_in : Bytes → Option Bytes
class_in t = class_of_type (type_read t)

-- ---- where there may be no class

abbrev pub chain_where : List ClassFacts → Option Bytes → List ClassFacts
chain_where cs None = []
chain_where cs (Some x) = chain_of cs x

abbrev pub above_where : List ClassFacts → Option Bytes → List ClassFacts
above_where cs None = []
above_where cs (Some x) = above_of cs x
