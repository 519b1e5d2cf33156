-- What clients can name above themselves, of a class's two records.
use Rattle.std.specs.Prelude.{Bool, not, ◌||◌, ◌&&◌}
use Rattle.jc_facts.specs.declared.class_facts.ClassFacts.{ClassFacts}
use Rattle.jc_facts.specs.Flags.{final_flag, interface_flag}
use Rattle.jc_promises.specs.rule.Bases.{is_open, has_init, newly_sealed}
use Rattle.jc_facts.specs.world.Inheritance.{public_or_protected}
use Rattle.jc_sides.specs.SidesOf.{SidesOf}

-- a record of an interface, and then of a class
abbrev pub becomes_class : ClassFacts → ClassFacts → Bool
becomes_class c d = interface_flag c.flags && not (interface_flag d.flags)

-- clients could extend a usable class of this record
abbrev pub could_extend : SidesOf → ClassFacts → Bool
could_extend s c = not (interface_flag c.flags) && not (final_flag c.flags) && has_init c public_or_protected && is_open s.old s.new c

-- clients could implement a usable interface of this record
abbrev pub could_implement : SidesOf → ClassFacts → Bool
could_implement s c = interface_flag c.flags && is_open s.old s.new c

-- the record d is final, became an interface, or is newly sealed
abbrev pub shuts_out : SidesOf → ClassFacts → ClassFacts → Bool
shuts_out s c d = final_flag d.flags || (interface_flag d.flags && not (interface_flag c.flags)) || newly_sealed s.old s.new c d

-- clients could name a class of the record c above themselves, and some can't as it is of the record d
abbrev pub closes : SidesOf → ClassFacts → ClassFacts → Bool
closes s c d = not (becomes_class c d) && (could_extend s c || could_implement s c) && shuts_out s c d

-- clients could extend a usable class of the record c, and still can as it is of the record d
abbrev pub stays_superclass : SidesOf → ClassFacts → ClassFacts → Bool
stays_superclass s c d = could_extend s c && not (shuts_out s c d)

-- clients could implement a usable interface of the record c, and still can as it is of the record d
abbrev pub stays_interface : SidesOf → ClassFacts → ClassFacts → Bool
stays_interface s c d = could_implement s c && not (becomes_class c d) && not (shuts_out s c d)
