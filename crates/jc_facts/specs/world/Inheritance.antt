-- What the methods of a class are to the classes below it, by their flags (JVMS 4.6).
--     is_final_in_chain W a k      the class a or a superclass of it has the key final
--     inherits W i k      the interface i or one above it has a method of the key that those below inherit
use Rattle.std.specs.Prelude.{Bool, not, List, ◌∷◌, [], Option, None, Some, ◌||◌, ◌&&◌}
use Rattle.std.specs.List.{list_any}
use Rattle.jc_facts.specs.declared.class_facts.ClassFacts.{ClassFacts}
use Rattle.jc_facts.specs.declared.class_facts.Member.{Member}
use Rattle.jc_facts.specs.declared.key.Key.{Key}
use Rattle.jc_facts.specs.Names.{Bytes}
use Rattle.jc_facts.specs.Flags.{public_flag, private_flag, protected_flag, no_static_flag, final_flag}
use Rattle.jc_facts.specs.Options.{some_and}
use Rattle.jc_facts.specs.world.World.{World, find_class, own_method_of}
use Rattle.jc_facts.specs.world.Hierarchy.{chain, superinterfaces}

-- the member is public or protected
abbrev pub public_or_protected : Member → Bool
public_or_protected m = public_flag m.flags || protected_flag m.flags

-- ---- final methods

-- a final instance method that is public or protected
abbrev pub is_open_final : Member → Bool
is_open_final m = final_flag m.flags && no_static_flag m.flags && public_or_protected m

-- the class declares the key as such a method
abbrev pub declares_as_final : Key → ClassFacts → Bool
declares_as_final k c = some_and is_open_final (own_method_of c k)

-- a class of the chain declares the key as a final instance method that is public or protected
unfoldable pub is_final_in_chain : World → Bytes → Key → Bool
is_final_in_chain W a k = list_any (declares_as_final k) (chain W a)

-- ---- methods of interfaces

-- an instance method that isn't private
abbrev pub is_inheritable : Member → Bool
is_inheritable m = no_static_flag m.flags && not (private_flag m.flags)

-- the class declares the key as such a method
abbrev pub offers : Key → ClassFacts → Bool
offers k c = some_and is_inheritable (own_method_of c k)

-- these classes, and this one before them where it is there
abbrev pub itself_and : List ClassFacts → Option ClassFacts → List ClassFacts
itself_and above None = []
itself_and above (Some c) = c ∷ above

-- the interface i or one above it declares the key as an instance method that isn't private
unfoldable pub inherits : World → Bytes → Key → Bool
inherits W i k = list_any (offers k) (itself_and (superinterfaces W i) (find_class W i))
