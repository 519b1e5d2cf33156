-- What a class inherits from interfaces.
use Rattle.std.specs.Prelude.{Bool, cond}
use Rattle.std.specs.List.{list_any}
use Rattle.jc_facts.specs.declared.key.Key.{Key}
use Rattle.jc_facts.specs.Names.{Bytes}
use Rattle.jc_facts.specs.world.World.{World}
use Rattle.jc_facts.specs.world.Hierarchy.{superinterfaces}
use Rattle.jc_facts.specs.world.Assignment.{is_interface_of}
use Rattle.jc_facts.specs.world.Inheritance.{inherits, offers}

-- the class x, where it is an interface, or a superinterface of it declares the key as an instance method that isn't private
abbrev pub inherits_from : World → Bytes → Key → Bool
inherits_from W x k = cond (is_interface_of W x) (inherits W x k) (list_any (offers k) (superinterfaces W x))
