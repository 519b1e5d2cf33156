-- Of initializers, by a class's two records and by the flags of what the two declare of the key.
use Rattle.std.specs.Prelude.{ℕ, Bool, not, cond, Option, None, Some, ◌||◌, ◌&&◌}
use Rattle.jc_facts.specs.declared.class_facts.ClassFacts.{ClassFacts}
use Rattle.jc_facts.specs.declared.key.Key.{Key}
use Rattle.jc_facts.specs.declared.link_error.LinkError.{LinkError}
use Rattle.jc_facts.specs.declared.link_error.LinkError.TheVariants.{IllegalAccessError, InstantiationError, NoSuchMethodError}
use Rattle.jc_facts.specs.Flags.{public_flag, protected_flag, abstract_flag, interface_flag}
use Rattle.jc_desc.specs.Names.{is_init_name}
use Rattle.jc_facts.specs.Options.{some_and}
use Rattle.jc_facts.specs.world.Loading.{fault_where}

-- objects of a class of this record can't be made
abbrev pub makes_no_objects : ClassFacts → Bool
makes_no_objects c = abstract_flag c.flags || interface_flag c.flags

-- the flags are those of a public or protected member
abbrev pub open_flags : ℕ → Bool
open_flags f = public_flag f || protected_flag f

-- the key is an initializer's, and what is declared of it has flags that pass the test
abbrev pub declares_init : (ℕ → Bool) → Key → Option ℕ → Bool
declares_init test k was = some_and (λ f. is_init_name k.name && test f) was

-- why what is declared with these flags can't be called: there is nothing, or the flags don't pass the test
abbrev pub why_closed : (ℕ → Bool) → Option ℕ → Option LinkError
why_closed test None = Some NoSuchMethodError
why_closed test (Some f) = fault_where (not (test f)) IllegalAccessError

-- why clients can't make objects by the initializer with the record d, where they could with c (JVMS 6.5, new)
abbrev pub fault_of_new : ClassFacts → ClassFacts → Key → Option ℕ → Option ℕ → Option LinkError
fault_of_new c d k was now = cond (not (makes_no_objects c) && declares_init (λ f. public_flag f) k was) (cond (makes_no_objects d) (Some InstantiationError) (why_closed (λ f. public_flag f) now)) None

-- why classes below can't call the initializer, where they could (JVMS 5.4.4)
abbrev pub fault_of_super : Key → Option ℕ → Option ℕ → Option LinkError
fault_of_super k was now = cond (declares_init (λ f. open_flags f) k was) (why_closed (λ f. open_flags f) now) None
