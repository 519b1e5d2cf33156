use Rattle.std.proofs.Common.{◌≡◌, drop}
use Rattle.jc_facts.specs.Options.{first_some}
use Rattle.jc_facts.specs.world.Lookup.{field_found}
use Rattle.jc_field.proofs.walk.first_of.Given as goal

abbrev pub invariant-loop-name : goal.invariant-loop-name
invariant-loop-name l = first_some (λ i. field_found l.table i l.key) l.names ≡ first_some (λ i. field_found l.table i l.key) (drop l.name-index l.names)
