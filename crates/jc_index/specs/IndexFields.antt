-- What is kept of what each class names above itself, and of the names that it permits to extend it.
use Rattle.std.specs.Prelude.{map, ◌≡◌}
use Rattle.jc_index.specs.Ids.{names, superclass_of}
use Rattle.jc_index.specs.Interfaces.{interfaces_of}
use Rattle.jc_index.specs.steps.Seals.{AreSeals}
use Rattle.jc_index.specs.declared.index.Index.TheInside.{Inside}

-- what is kept beside the classes is of these classes
pub record IsIndex (i : Inside) : Type 0 where
  pub superclasses : i.superclasses.items ≡ map (superclass_of i.classes) (names i.classes)
  pub interfaces : i.interfaces.items ≡ map (interfaces_of i.classes) (names i.classes)
  pub seals : AreSeals i.classes i.seals.items
