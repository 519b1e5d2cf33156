-- What is kept beside a platform's list of classes.
use Rattle.std.specs.Prelude.{◌≡◌, map}
use Rattle.jc_index.specs.steps.PlacesAbove.{places_above}
use Rattle.jc_index.specs.steps.Walking.{HavePlatformFinals}
use Rattle.jc_index.specs.declared.platform_list.PlatformList.TheInside.{Inside}

-- kept are the places of the classes that each names above itself, and the keys of the final methods there
pub record IsPlatformList (l : Inside) : Type 0 where
  pub places : l.above.items ≡ map (places_above l.list) l.list
  pub finals : HavePlatformFinals l.list l.finals
