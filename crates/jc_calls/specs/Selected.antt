-- Which method a call of an interface's method runs, as far as a class's chain says it (JVMS 5.4.6).
--     IsCalled W y k      a superinterface of the class y, and its method of the key
--     selected k r cs      the method that is selected for the method r of the key, from the classes cs of a chain
--     IsRefused V W y a k      of a call by an interface above the class a on an object of y: it selects a client's method that isn't public
use Rattle.std.specs.Prelude.{List, [], ◌∷◌, Option, None, Some, ◌≡◌, Contains, IsTrue, IsFalse}
use Rattle.jc_facts.specs.declared.class_facts.ClassFacts.{ClassFacts}
use Rattle.jc_facts.specs.declared.class_facts.Member.{Member}
use Rattle.jc_facts.specs.declared.key.Key.{Key}
use Rattle.jc_facts.specs.Names.{Bytes}
use Rattle.jc_facts.specs.Flags.{public_flag, interface_flag}
use Rattle.jc_facts.specs.Options.{or_else, some_where}
use Rattle.jc_facts.specs.world.World.{World, DeclaredMember, is_client, own_method_of, declared_method}
use Rattle.jc_facts.specs.world.Hierarchy.{chain, superinterfaces}
use Rattle.jc_facts.specs.world.Inheritance.{is_inheritable}
use Rattle.jc_facts.specs.world.Overriding.{directly_overrides}

-- an interface above the class y declares the key as a method, public and neither private nor static, that invokeinterface calls
pub record IsCalled (W : World) (y : Bytes) (k : Key) : Type 0 where
  pub class : ClassFacts
  pub is_above : Contains (superinterfaces W y) class
  pub kind : IsTrue (interface_flag class.flags)
  pub method : Member
  pub declares : own_method_of class k ≡ Some method
  pub inheritable : IsTrue (is_inheritable method)
  pub public : IsTrue (public_flag method.flags)

-- that method, as one of its interface
abbrev pub called_method : {W : World} {y : Bytes} {k : Key} → IsCalled W y k → DeclaredMember
called_method c = record { owner = c.class.name; member = c.method }

-- the method, where it can override r. Where r is public, access alone decides that (JVMS 5.4.5)
abbrev pub if_overrides : DeclaredMember → Option DeclaredMember → Option DeclaredMember
if_overrides r None = None
if_overrides r (Some m) = some_where (directly_overrides m r) m

-- the method of the first of the classes, from the object's class up, that declares one which can override r (JVMS 5.4.6). Where none does, the
-- superinterfaces decide
unfoldable pub selected : Key → DeclaredMember → List ClassFacts → Option DeclaredMember
selected k r [] = None
selected k r (c ∷ cs) = or_else (if_overrides r (declared_method k c)) (selected k r cs)

-- in the world V of clients of the side W: the key is called by an interface above the class a of the side, and on an object of the client class y this
-- selects a method of a client that isn't public. The call ends with IllegalAccessError (JVMS 6.5, invokeinterface)
pub record IsRefused (V W : World) (y a : Bytes) (k : Key) : Type 0 where
  pub called : IsCalled W a k
  pub method : DeclaredMember
  pub runs : selected k (called_method called) (chain V y) ≡ Some method
  pub of_client : IsTrue (is_client V method.owner)
  pub not_public : IsFalse (public_flag method.member.flags)
