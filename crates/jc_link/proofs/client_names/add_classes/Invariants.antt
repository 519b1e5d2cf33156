use Rattle.std.proofs.Common.{◌≡◌, ◌++◌, take}
use Rattle.std.specs.List.{flat_map}
use Rattle.jc_link.specs.steps.TakenNames.{own_of, above_of, package_of_class}
use Rattle.jc_link.proofs.client_names.add_classes.Given as goal

abbrev pub invariant-loop-class : goal.invariant-loop-class
invariant-loop-class l =
    (l.lists.declared.items ≡ l.fn.lists.declared.items ++ flat_map (own_of l.of) (take l.class-index l.classes))
    × (l.lists.supers.items ≡ l.fn.lists.supers.items ++ flat_map (above_of l.of) (take l.class-index l.classes))
    × (l.lists.packages.items ≡ l.fn.lists.packages.items ++ flat_map (package_of_class l.of) (take l.class-index l.classes))
