-- Methods of interfaces that base classes bring to clients which declare them with less access, over the old side O and the new side N alone.
--     access_added O N a k      a base class a, below which clients could declare the key with less access than public, has it from a superinterface now
-- A class below a that declares the key as an instance method which is neither public nor private has no say in it before. Now a call of the
-- interface's method on an object of the class selects the class's own (JVMS 5.4.6), and as that isn't public ends with IllegalAccessError
-- (JVMS 6.5, invokeinterface).
use Rattle.std.specs.Prelude.{Bool, not, ◌||◌, ◌&&◌}
use Rattle.std.specs.List.{list_any}
use Rattle.jc_facts.specs.declared.key.Key.{Key}
use Rattle.jc_facts.specs.Flags.{public_flag}
use Rattle.jc_facts.specs.Names.{Bytes}
use Rattle.jc_facts.specs.Options.{some_and}
use Rattle.jc_facts.specs.world.World.{World}
use Rattle.jc_facts.specs.world.Hierarchy.{chain, superinterfaces}
use Rattle.jc_facts.specs.world.Inheritance.{offers, is_final_in_chain}
use Rattle.jc_facts.specs.world.Lookup.{first_declared}
use Rattle.jc_promises.specs.rule.Bases.{is_base_class, is_key_of_method}

-- a superinterface of x declares the key as an instance method that isn't private
abbrev pub is_called_above : World → Bytes → Key → Bool
is_called_above W x k = list_any (offers k) (superinterfaces W x)

-- the method of the key that the first class of the chain of x declares is public: javac lets nobody below declare it with less access (JLS 8.4.8.3)
abbrev pub is_public_in_chain : World → Bytes → Key → Bool
is_public_in_chain W x k = some_and (λ m. public_flag m.member.flags) (first_declared k (chain W x))

-- clients below x may declare the key with less access than public, and no interface above x calls it
abbrev pub allows_less_access : World → Bytes → Key → Bool
allows_less_access W x k = not (is_called_above W x k || is_public_in_chain W x k || is_final_in_chain W x k)

-- the method of the key isn't final above, before and now: before, no client declares it, and now there is a finding or a collision for who does
unfoldable pub access_added : World → World → Bytes → Key → Bool
access_added O N a k = is_key_of_method k && is_base_class O N a && allows_less_access O a k && is_called_above N a k && not (is_final_in_chain N a k)
