use Rattle.std.proofs.Common.{◌≡◌, true, sym, ap, ◌∙◌}
use Rattle.jc_facts.specs.Names.{Bytes}
use Rattle.jc_facts.specs.world.Assignment.{is_interface_of}
use Rattle.jc_index.specs.Ids.{name_at}
use Rattle.jc_index.proofs.Numbers.{find-None}
use Rattle.jc_sides.specs.SidesFields.{worlds}
use Rattle.jc_sides.specs.SidesOf.{SidesOf}
use Rattle.jc_sides.proofs.Seen.{of_same_name}
use Rattle.jc_rules.proofs.InterfaceBecameClass.{flag_is, lost_there, lost_gone, absent}
use Rattle.jc_rules.proofs.interface_became_class.is_no_interface_now.Goals as goal

pub returns-in-Some : goal.returns-in-Some
returns-in-Some c =
    let x : Bytes = name_at c.args.sides.now.old c.args.id in
    let was : is_interface_of c.args.sides.now.old x ≡ true =
    sym (ap (λ (s : SidesOf). is_interface_of s.old (name_at s.old c.args.id)) c.sides.view_is) ∙ sym (flag_is c.sides.inside.old.now (name_at c.sides.inside.old.now c.args.id) c.facts.result.now c.is_interface.result c.facts.ensures c.is_interface.ensures) ∙ c.if-not-is_interface.false in
    lost_there (is_interface_of c.args.sides.now.old x) (is_interface_of c.args.sides.now.new x) c.is_interface-in-Some.result was
    (of_same_name (worlds c.sides.inside) c.args.sides.now c.sides.view_is c.args.id c.in-Some.after (sym c.in-Some.is ∙ c.new_id.ensures.value) (λ W y. c.is_interface-in-Some.result ≡ is_interface_of W y)
    (flag_is c.sides.inside.new.now (name_at c.sides.inside.new.now c.in-Some.after) c.facts-in-Some.result.now c.is_interface-in-Some.result c.facts-in-Some.ensures c.is_interface-in-Some.ensures))

pub returns-in-None : goal.returns-in-None
returns-in-None c =
    let x : Bytes = name_at c.args.sides.now.old c.args.id in
    let was : is_interface_of c.args.sides.now.old x ≡ true =
    sym (ap (λ (s : SidesOf). is_interface_of s.old (name_at s.old c.args.id)) c.sides.view_is) ∙ sym (flag_is c.sides.inside.old.now (name_at c.sides.inside.old.now c.args.id) c.facts.result.now c.is_interface.result c.facts.ensures c.is_interface.ensures) ∙ c.if-not-is_interface.false in
    lost_gone (is_interface_of c.args.sides.now.old x) (is_interface_of c.args.sides.now.new x) was
    (absent c.args.sides.now.new x (find-None c.args.sides.now.new x (sym c.new_id.ensures.value ∙ c.in-None.is)))
