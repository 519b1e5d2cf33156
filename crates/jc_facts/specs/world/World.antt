-- A world: the platform, a release of a library, clients of both, and the modules in which their classes lie.
--     side P R      a side of a run without modules: all classes are in one
--     modular_side exports P R      a side of a run with modules
--     classes W      all its classes
--     find_class W x      the class of this name (JVMS 5.3)
--     differ_by_name cs      no two of the classes have one name
--     own_field_of c k, own_method_of c k      what the class itself declares (JVMS 4.5, 4.6)
use Rattle.std.specs.Prelude.{ℕ, Bool, true, false, cond, List, [], ◌∷◌, ◌++◌, length, Option, None, Some, is_some, is_none, ◌&&◌}
use Rattle.std.specs.List.{find as first_where}
use Rattle.jc_facts.specs.declared.class_facts.ClassFacts.{ClassFacts}
use Rattle.jc_facts.specs.declared.class_facts.Member.{Member}
use Rattle.jc_facts.specs.declared.key.Key.{Key}
use Rattle.jc_facts.specs.Names.{Bytes, same, is_key}
use Rattle.jc_facts.specs.Options.{some_and}

-- the modules of a world (JVMS 4.7.25, 5.3.6)
pub data Modules : Type 0 where
  -- one, that of the clients, in which all classes are
  OneModule : Modules
  -- one of the platform, one of the clients, and one of the release, where there is a list of the packages that it exports;
  -- a release without such a list is in that of the clients
  Several : Option (List Bytes) → Modules

-- there are several
abbrev pub is_modular : Modules → Bool
is_modular OneModule = false
is_modular (Several exports) = true

-- a side is a platform with a release; a world is a side with clients, which are of neither
pub record World : Type 0 where
  pub platform : List ClassFacts
  pub release : List ClassFacts
  pub clients : List ClassFacts
  pub modules : Modules

-- the platform and a release alone, in these modules
abbrev pub side_in : Modules → List ClassFacts → List ClassFacts → World
side_in modules platform release = record { platform = platform; release = release; clients = []; modules = modules }

-- the same in one module
abbrev pub side : List ClassFacts → List ClassFacts → World
side platform release = side_in OneModule platform release

-- the same in several, where the release's module exports these packages, or the release has no such list
abbrev pub modular_side : Option (List Bytes) → List ClassFacts → List ClassFacts → World
modular_side exports platform release = side_in (Several exports) platform release

-- the side with these clients
abbrev pub with_clients : World → List ClassFacts → World
with_clients W clients = record { platform = W.platform; release = W.release; clients = clients; modules = W.modules }

-- ---- its classes

-- all classes of the world
abbrev pub classes : World → List ClassFacts
classes W = W.platform ++ W.release ++ W.clients

-- how many classes there are
unfoldable pub size : World → ℕ
size W = length (classes W)

-- the first class of the list with this name
unfoldable pub class_named : List ClassFacts → Bytes → Option ClassFacts
class_named [] x = None
class_named (c ∷ cs) x = cond (same c.name x) (Some c) (class_named cs x)

-- no two of the classes have one name
unfoldable pub differ_by_name : List ClassFacts → Bool
differ_by_name [] = true
differ_by_name (c ∷ cs) = is_none (class_named cs c.name) && differ_by_name cs

-- the class of the world with this name: one loader finds them all (JVMS 5.3)
unfoldable pub find_class : World → Bytes → Option ClassFacts
find_class W x = class_named (classes W) x

-- the class of this name is there and passes the test
abbrev pub class_is : World → (ClassFacts → Bool) → Bytes → Bool
class_is W test x = some_and test (find_class W x)

-- the class of this name is a client
unfoldable pub is_client : World → Bytes → Bool
is_client W x = is_some (class_named W.clients x)

-- ---- its members

-- the class's own field of the key (JVMS 4.5)
abbrev pub own_field_of : ClassFacts → Key → Option Member
own_field_of c k = first_where (is_key k) c.fields

-- the class's own method of the key (JVMS 4.6)
abbrev pub own_method_of : ClassFacts → Key → Option Member
own_method_of c k = first_where (is_key k) c.methods

-- a member, and the name of the class that declares it
pub record DeclaredMember : Type 0 where
  pub owner : Bytes
  pub member : Member

-- a member as one of this class
unfoldable pub found_in : ClassFacts → Option Member → Option DeclaredMember
found_in c None = None
found_in c (Some m) = Some (record { owner = c.name; member = m })

-- the method of the key that the class itself declares
abbrev pub declared_method : Key → ClassFacts → Option DeclaredMember
declared_method k c = found_in c (own_method_of c k)
