-- What is kept of classes in byte order of their names.
use Rattle.std.specs.Prelude.{◌≤◌, length}
use Rattle.jc_facts.specs.world.World.{classes}
use Rattle.jc_index.specs.Sides.{IsSide}
use Rattle.jc_index.specs.steps.Order.{IsOrder, AreNumbers}
use Rattle.jc_facts.specs.declared.limits.TheConstants.{MAX_SIDE_CLASSES}
use Rattle.jc_index.specs.declared.named_classes.NamedClasses.TheInside.{Inside}

-- kept are a side of few classes, their order, and their numbers by their places
pub record AreNamedClasses (i : Inside) : Type 0 where
  pub few : length (classes i.side) ≤ MAX_SIDE_CLASSES
  pub order : IsOrder (classes i.side) i.order.items
  pub numbers : AreNumbers (classes i.side) i.numbers.items
  pub side : IsSide i.side
