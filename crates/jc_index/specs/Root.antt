-- What a platform's java/lang/Object has to be, and which part of it isn't so.
use Rattle.std.specs.Prelude.{Bool, not, List, Option, None, Some, is_some, length, ◌==◌, ◌||◌, codes}
use Rattle.jc_facts.specs.declared.class_facts.ClassFacts.{ClassFacts}
use Rattle.jc_facts.specs.Names.{object_name}
use Rattle.jc_facts.specs.Flags.{public_flag, final_flag, interface_flag}
use Rattle.jc_facts.specs.Options.{or_else, some_and, some_where}
use Rattle.jc_facts.specs.world.World.{class_named, own_method_of}
use Rattle.jc_facts.specs.client.Outcome.{init_key}
use Rattle.jc_index.specs.declared.root.RootPart.{RootPart}
use Rattle.jc_index.specs.declared.root.RootPart.TheVariants as parts

-- it isn't public, or it is final or an interface
abbrev pub flags_are_wrong : ClassFacts → Bool
flags_are_wrong c = not (public_flag c.flags) || final_flag c.flags || interface_flag c.flags

-- it declares a public instance initializer without parameters (JVMS 2.9.1)
abbrev pub declares_public_init : ClassFacts → Bool
declares_public_init c = some_and (λ m. public_flag m.flags) (own_method_of c (init_key (codes "()V")))

-- the first part that isn't as it has to be
unfoldable pub faulty_part : ClassFacts → Option RootPart
faulty_part c =
    or_else (some_where (flags_are_wrong c) parts.Flags)
    (or_else (some_where (is_some c.superclass) parts.Super)
    (or_else (some_where (not (length c.interfaces == 0)) parts.Interfaces)
    (or_else (some_where (not (length c.fields == 0)) parts.Fields)
    (or_else (some_where (is_some c.permits) parts.Permits)
    (some_where (not (declares_public_init c)) parts.Init)))))

-- the same where the class is there at all
abbrev pub root_by : Option ClassFacts → Option RootPart
root_by None = Some parts.Missing
root_by (Some c) = faulty_part c

-- the first part of the platform's java/lang/Object that isn't as it has to be, none where all are
unfoldable pub fault_of_root : List ClassFacts → Option RootPart
fault_of_root platform = root_by (class_named platform object_name)
