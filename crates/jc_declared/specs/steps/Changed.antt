-- The classes of which the rules on members speak: those that may have changed.
use Rattle.std.specs.Prelude.{Bool, ◌&&◌}
use Rattle.jc_acts.specs.Seats.{may_be_closed}
use Rattle.jc_facts.specs.Names.{Bytes}
use Rattle.jc_promises.specs.rule.Bases.{is_steady, is_base_class, is_base_interface}
use Rattle.jc_declared.specs.declared.changed.Changed.{Changed}
use Rattle.jc_sides.specs.SharedOf.{AreThose}
use Rattle.jc_sides.specs.SidesOf.{SidesOf}

-- a kept class that hasn't stopped to be an interface
abbrev pub changed_steady : SidesOf → Bytes → Bool
changed_steady s x = is_steady s.old s.new x && may_be_closed s x

-- a base class
abbrev pub changed_class : SidesOf → Bytes → Bool
changed_class s x = is_base_class s.old s.new x && may_be_closed s x

-- a base interface
abbrev pub changed_interface : SidesOf → Bytes → Bool
changed_interface s x = is_base_interface s.old s.new x && may_be_closed s x

-- they are all of these
pub record AreChanged (s : SidesOf) (c : Changed) : Type 0 where
  pub steady : AreThose (changed_steady s) s c.steady.items
  pub classes : AreThose (changed_class s) s c.classes.items
  pub interfaces : AreThose (changed_interface s) s c.interfaces.items
