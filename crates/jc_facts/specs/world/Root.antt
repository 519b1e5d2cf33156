-- What a platform's java/lang/Object has to be.
--     HasRoot platform      the platform has such a class
use Rattle.std.specs.Prelude.{List, [], None, Some, IsTrue, IsFalse, ◌≡◌}
use Rattle.jc_facts.specs.declared.class_facts.ClassFacts.{ClassFacts}
use Rattle.jc_facts.specs.Names.{object_name}
use Rattle.jc_facts.specs.Flags.{public_flag, interface_flag}
use Rattle.jc_facts.specs.world.World.{class_named}

-- what a platform's java/lang/Object is: there, public, no interface, with nothing above it and no fields (JVMS 4.1, 5.3.5)
pub record HasRoot (platform : List ClassFacts) : Type 0 where
  pub root : ClassFacts
  pub is_there : class_named platform object_name ≡ Some root
  pub superclass : root.superclass ≡ None
  pub interfaces : root.interfaces ≡ []
  pub fields : root.fields ≡ []
  pub public : IsTrue (public_flag root.flags)
  pub class : IsFalse (interface_flag root.flags)
