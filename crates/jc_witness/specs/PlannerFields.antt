-- What a planner keeps.
use Rattle.std.specs.Prelude.{◌≡◌}
use Rattle.jc_promises.specs.plan.PlannedNames.{fresh_package}
use Rattle.jc_sides.specs.SidesOf.{SidesOf}
use Rattle.jc_witness.specs.Ground.{IsGround}
use Rattle.jc_witness.specs.declared.planner.Planner.TheInside.{Inside}

-- its two sides
abbrev pub sides_of : Inside → SidesOf
sides_of p = p.sides

-- clients can be planned over them, in the package that it keeps
pub record AreFields (p : Inside) : Type 0 where
  pub ground : IsGround p.sides
  pub fresh : p.«package» ≡ fresh_package p.sides.old p.sides.new
