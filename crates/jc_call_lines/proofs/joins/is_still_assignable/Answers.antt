use Rattle.std.proofs.Common.{◌≡◌, Some, sym, ap, subst, ◌∙◌}
use Rattle.jc_facts.specs.Options.{some_and}
use Rattle.jc_facts.specs.Flags.{interface_flag}
use Rattle.jc_facts.specs.world.Assignment.{is_interface_of}
use Rattle.jc_facts.specs.world.Hierarchy.{in_chain}
use Rattle.jc_index.specs.Ids.{name_at, id_of}
use Rattle.jc_sides.specs.SidesFields.{worlds}
use Rattle.jc_sides.specs.SidesOf.{SidesOf}
use Rattle.jc_sides.proofs.Seen.{of_same_name}
use Rattle.jc_call_lines.proofs.JoinSeats.{still_itself, still_absent, still_interface, still_above, still_gone}
use Rattle.jc_call_lines.proofs.joins.is_still_assignable.Goals as goal

pub returns-then-eq : goal.returns-then-eq
returns-then-eq c =
    let s : SidesOf = c.args.sides.now in
    still_itself s c.requires.differ c.args.class c.args.target c.requires.class c.requires.target (sym c.if-eq.ensures)

pub returns-in_default : goal.returns-in_default
returns-in_default c =
    let s : SidesOf = c.args.sides.now in
    still_absent s c.requires.differ c.args.class c.args.target c.requires.class c.requires.target (sym c.if-eq.ensures) (sym c.in_default.is ∙ c.new_id.ensures.value)

pub returns-then-is_interface : goal.returns-then-is_interface
returns-then-is_interface c =
    let s : SidesOf = c.args.sides.now in
    let is : Some c.in-Some.above ≡ id_of s.new (name_at s.old c.args.target) = sym c.in-Some.is ∙ c.new_id.ensures.value in
    let kind : c.is_interface.result ≡ is_interface_of s.new (name_at s.old c.args.target) =
    of_same_name (worlds c.sides.inside) s c.sides.view_is c.args.target c.in-Some.above is (λ W y. c.is_interface.result ≡ is_interface_of W y) (c.is_interface.ensures ∙ ap (some_and (λ c. interface_flag c.flags)) c.facts.ensures) in
    still_interface s c.requires.differ c.args.class c.args.target c.requires.class c.requires.target (sym c.if-eq.ensures) c.is_interface.result kind c.if-is_interface.true

pub returns-in-Some-new_id : goal.returns-in-Some-new_id
returns-in-Some-new_id c =
    let s : SidesOf = c.args.sides.now in
    let is : Some c.in-Some.above ≡ id_of s.new (name_at s.old c.args.target) = sym c.in-Some.is ∙ c.new_id.ensures.value in
    let kind : c.is_interface.result ≡ is_interface_of s.new (name_at s.old c.args.target) =
    of_same_name (worlds c.sides.inside) s c.sides.view_is c.args.target c.in-Some.above is (λ W y. c.is_interface.result ≡ is_interface_of W y) (c.is_interface.ensures ∙ ap (some_and (λ c. interface_flag c.flags)) c.facts.ensures) in
    still_above s c.requires.differ c.args.class c.args.target c.requires.class c.requires.target (sym c.if-eq.ensures) c.is_interface.result c.has_super.result c.in-Some-new_id.after c.in-Some.above kind c.if-is_interface.false
    c.in-Some-new_id.ensures.value is (subst (λ (u : SidesOf). c.has_super.result ≡ in_chain u.new (name_at u.new c.in-Some-new_id.after) (name_at u.new c.in-Some.above)) c.sides.view_is c.has_super.ensures)

pub returns-in-None : goal.returns-in-None
returns-in-None c =
    let s : SidesOf = c.args.sides.now in
    let is : Some c.in-Some.above ≡ id_of s.new (name_at s.old c.args.target) = sym c.in-Some.is ∙ c.new_id.ensures.value in
    let kind : c.is_interface.result ≡ is_interface_of s.new (name_at s.old c.args.target) =
    of_same_name (worlds c.sides.inside) s c.sides.view_is c.args.target c.in-Some.above is (λ W y. c.is_interface.result ≡ is_interface_of W y) (c.is_interface.ensures ∙ ap (some_and (λ c. interface_flag c.flags)) c.facts.ensures) in
    still_gone s c.requires.differ c.args.class c.args.target c.requires.class c.requires.target (sym c.if-eq.ensures) c.is_interface.result kind c.if-is_interface.false c.in-None.ensures.value
