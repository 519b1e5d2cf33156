-- Worlds of one module: each definition that asks for the module of a class is what it is without the question.
use Rattle.std.specs.Prelude.{◌≡◌, ◌||◌, ◌&&◌}
use Rattle.jc_facts.specs.Options.{and_then}
use Rattle.jc_facts.specs.declared.class_facts.ClassFacts.{ClassFacts}
use Rattle.jc_facts.specs.Names.{Bytes, in_same_package}
use Rattle.jc_facts.specs.Flags.{public_flag}
use Rattle.jc_facts.specs.world.World.{World, OneModule, find_class, class_is}
use Rattle.jc_facts.specs.world.Access.{is_class_accessible}
use Rattle.jc_facts.specs.world.Loading.{sealed_by, is_sealed_against, loads}
use Rattle.jc_promises.specs.plan.PlannedNames.{left_out_by, missing_name}
use Rattle.jc_promises.specs.rule.Bases.{is_class_usable, permits_some, is_open, leaves_out, newly_sealed}

-- access, the seal and who is usable are what they are without modules
pub record IsPlain (W : World) : Type 0 where
  pub access : (x : Bytes) (d : ClassFacts) → is_class_accessible W x d ≡ (public_flag d.flags || in_same_package x d.name)
  pub sealing : (d c : ClassFacts) → is_sealed_against W d c ≡ sealed_by c d.name d.permits
  pub usable : (x : Bytes) → is_class_usable W x ≡ (class_is W (λ c. public_flag c.flags) x && loads W x)

-- so is what two sides leave open, and the name that a client of a closed class takes
pub record ArePlain (O N : World) : Type 0 where
  pub opened : (c : ClassFacts) → is_open O N c ≡ permits_some O N c.permits
  pub newly_sealed : (c d : ClassFacts) → newly_sealed O N c d ≡ leaves_out O N c.permits d.permits
  pub missing : (x : Bytes) → missing_name O N x ≡ and_then (λ c. and_then (λ d. left_out_by O N c d.permits) (find_class N x)) (find_class O x)

-- so it is of worlds of one module, as those of a run without modules
abbrev pub PlainWorlds : Type 0
PlainWorlds = (O N : World) → O.modules ≡ OneModule → N.modules ≡ OneModule → IsPlain O × ArePlain O N
