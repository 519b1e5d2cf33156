use Rattle.std.proofs.Common.{List, ◌∙◌, ap}
use Rattle.jc_facts.specs.declared.class_facts.ClassFacts.{ClassFacts}
use Rattle.jc_facts.specs.Names.{Bytes}
use Rattle.jc_index.specs.Ids.{place_of}
use Rattle.jc_index.specs.steps.Order.{names_at}
use Rattle.jc_index.proofs.Standing.{place-below}
use Rattle.jc_index.proofs.class_list.ClassList.place.Goals as goal

pub returns-clause-of_list : goal.returns-clause-of_list
returns-clause-of_list c =
    place-below c.args.self.now c.args.name.now c.number.result
    (c.number.ensures ∙ ap (λ (ns : List Bytes). place_of ns c.args.name.now) c.self.invariant.names ∙ ap (λ (cs : List ClassFacts). place_of (names_at cs) c.args.name.now) c.self.view_is)
