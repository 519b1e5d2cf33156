-- The number of names that two sides mention, from their counts.
use Rattle.std.specs.Prelude.{◌≤◌, ◌<◌, ◌^◌, length, All}
use Rattle.jc_facts.specs.declared.limits.TheConstants.{MAX_SIDE_CLASSES}
use Rattle.jc_facts.specs.declared.class_facts.ClassFacts.{ClassFacts}
use Rattle.jc_facts.specs.world.World.{World, classes}
use Rattle.jc_facts.specs.world.Mentioned.{permitted, mentioned}

-- the class names fewer than 2^64 interfaces and permits fewer than 2^64 classes, as every list of the program is shorter
pub record HasCountedNames (c : ClassFacts) : Type 0 where
  pub interfaces : length c.interfaces < 2 ^ 64
  pub permits : length (permitted c.permits) < 2 ^ 64

-- sides of at most MAX_SIDE_CLASSES such classes mention fewer than 10^64 names
abbrev pub FewAreMentioned : Type 0
FewAreMentioned = (O N : World) → length (classes O) ≤ MAX_SIDE_CLASSES → length (classes N) ≤ MAX_SIDE_CLASSES → All HasCountedNames (classes O) → All HasCountedNames (classes N)
    → length (mentioned O N) < 10 ^ 64
