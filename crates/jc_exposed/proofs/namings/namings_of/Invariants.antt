use Rattle.std.proofs.Common.{◌==◌, ◌&&◌, take}
use Rattle.std.specs.List.{list_any}
use Rattle.jc_exposed.specs.Exposing.{every}
use Rattle.jc_facts.specs.Names.{key_of}
use Rattle.jc_exposed.specs.Namings.{Gives}
use Rattle.jc_exposed.proofs.namings.namings_of.Given as goal

abbrev pub invariant-loop-id : goal.invariant-loop-id
invariant-loop-id l = Gives every (λ g t. list_any (λ id. (id == t) && g (key_of l.member)) (take l.id-index l.ids)) l.namings.items
