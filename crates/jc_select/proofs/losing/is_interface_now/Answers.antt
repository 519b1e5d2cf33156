use Rattle.std.proofs.Common.{◌≡◌, Some, sym, ◌∙◌, ap}
use Rattle.jc_facts.specs.declared.class_facts.ClassFacts.{ClassFacts}
use Rattle.jc_facts.specs.Flags.{interface_flag}
use Rattle.jc_facts.specs.Names.{Bytes}
use Rattle.jc_facts.specs.Options.{some_and}
use Rattle.jc_facts.specs.world.Assignment.{is_interface_of}
use Rattle.jc_index.proofs.Numbers.{find-None}
use Rattle.jc_index.specs.Ids.{name_at, id_of}
use Rattle.jc_sides.proofs.Seen.{of_same_name}
use Rattle.jc_sides.specs.SidesFields.{worlds}
use Rattle.jc_select.proofs.losing.is_interface_now.Goals as goal

pub returns-in-None : goal.returns-in-None
returns-in-None c =
    let t : Bytes = name_at c.args.sides.now.old c.args.of in
    sym (ap (some_and (λ (d : ClassFacts). interface_flag d.flags)) (find-None c.args.sides.now.new t (sym c.new_id.ensures.value ∙ c.in-None.is)))

pub returns-in-Some : goal.returns-in-Some
returns-in-Some c =
    let is : Some c.in-Some.now ≡ id_of c.args.sides.now.new (name_at c.args.sides.now.old c.args.of) = sym c.in-Some.is ∙ c.new_id.ensures.value in
    of_same_name (worlds c.sides.inside) c.args.sides.now c.sides.view_is c.args.of c.in-Some.now is (λ W y. c.is_interface.result ≡ is_interface_of W y)
    (c.is_interface.ensures ∙ ap (some_and (λ (d : ClassFacts). interface_flag d.flags)) c.facts.ensures)
