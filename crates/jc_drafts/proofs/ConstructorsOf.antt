-- The constructor that a client below a class calls, as it is looked for.
use Rattle.std.proofs.Common.{◌≡◌, true, false, refl, ap, Option, Some, None, codes}
use Rattle.jc_facts.specs.declared.class_facts.ClassFacts.{ClassFacts}
use Rattle.jc_facts.specs.Names.{Bytes}
use Rattle.jc_facts.specs.Options.{and_then}
use Rattle.jc_facts.specs.file.Rules.{is_object_name}
use Rattle.jc_facts.specs.world.World.{World, find_class}
use Rattle.jc_promises.specs.plan.PlannedNames.{value_or, least_name, constructors, constructor}

module _ (W : World) (x : Bytes) (other : is_object_name x ≡ false) where
  pub of_no_class : None ≡ find_class W x → codes "()V" ≡ constructor W x
  unfolding and_then
  of_no_class e = rw other (rw (← e) refl)

  pub of_record : (c : ClassFacts) (found : Option Bytes) → Some c ≡ find_class W x → found ≡ least_name (λ d. true) (constructors c.methods) → value_or (codes "()V") found ≡ constructor W x
  unfolding and_then
  of_record c found e f = rw other (rw (← e) (ap (value_or (codes "()V")) f))
