-- The parts of a nest (JVMS 5.4.4).
use Rattle.std.specs.Prelude.{Bool, ◌&&◌}
use Rattle.jc_facts.specs.Names.{Bytes, is_name_among, in_same_package}
use Rattle.jc_facts.specs.Options.{some_and}
use Rattle.jc_facts.specs.world.World.{World, find_class}

-- the class h is there, of x's package, and names x as a member of its nest (JVMS 4.7.29)
abbrev pub takes_in : World → Bytes → Bytes → Bool
takes_in W h x = some_and (λ d. in_same_package x h && is_name_among d.nest_members x) (find_class W h)
