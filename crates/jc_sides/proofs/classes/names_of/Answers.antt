use Rattle.std.proofs.Common.{◌≡◌, map, ap, ◌∙◌, subst, List, arith}
use Rattle.std.specs.List.Sorted.{IsPermutation}
use Rattle.std.proofs.lemmas.List.{take_all}
use Rattle.jc_facts.specs.Names.{Bytes}
use Rattle.jc_sides.specs.SharedOf.{name_of}
use Rattle.jc_sides.proofs.Permitted.{has_those}
use Rattle.jc_sides.proofs.classes.names_of.Goals as goal

pub returns : goal.returns
returns c = λ s test those.
    let all : c.loop-class.names.items ≡ map name_of c.args.classes.now = c.loop-class.invariant ∙ ap (map name_of) (take_all c.loop-class.class-index c.args.classes.now (omega arith)) in
    has_those test s c.args.classes.now c.in_ok-set.set those (subst (λ (xs : List Bytes). IsPermutation xs c.in_ok-set.set) all c.in_ok-set.ensures)
