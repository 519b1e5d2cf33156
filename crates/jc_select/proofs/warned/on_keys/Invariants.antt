use Rattle.std.proofs.Common.{◌≡◌, take}
use Rattle.std.specs.List.{filter_map}
use Rattle.jc_sides.specs.SharedOf.{name_of}
use Rattle.jc_select.specs.steps.Warned.{warned}
use Rattle.jc_select.proofs.warned.on_keys.Given as goal

abbrev pub invariant-loop-key : goal.invariant-loop-key
invariant-loop-key l = l.warnings.items ≡ filter_map (warned l.sides (name_of l.«class»)) (take l.key-index l.keys)
