use Rattle.std.proofs.Common.{subst}
use Rattle.jc_base.specs.Places.{Fits}
use Rattle.jc_base.specs.declared.name.Place.{Place}
use Rattle.jc_base.proofs.name.Name.as_bytes.Goals as goal

pub shared_ref_as_front-result : goal.shared_ref_as_front-result
shared_ref_as_front-result c = subst (λ (place : Place). Fits place) c.in-Inside.is c.self.invariant
