-- A class that both sides have, as its fields have it.
use Rattle.jc_sides.specs.SharedOf.{SharedOf}
use Rattle.jc_sides.specs.declared.shared.Shared.TheInside.{Inside}

-- its name and its numbers
abbrev pub shared_of : Inside → SharedOf
shared_of b = record { name = b.name.now; old = b.old; new = b.new }
