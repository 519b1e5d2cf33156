use Rattle.std.proofs.Common.{true, false, sym, ap, ◌∙◌}
use Rattle.jc_promises.specs.rule.Exposed.{is_hidden}
use Rattle.jc_index.specs.Ids.{name_at}
use Rattle.jc_sides.specs.SidesOf.{SidesOf}
use Rattle.jc_rules.proofs.Assignments.{first_unhidden, second_unhidden, seat_serves, no_seat_serves}
use Rattle.jc_rules.proofs.assigned.handed.Goals as goal

pub returns-then-not-is_hidden_class : goal.returns-then-not-is_hidden_class
returns-then-not-is_hidden_class c = λ on is.
    first_unhidden c.args.sides.now.old c.args.sides.now.new on c.args.from c.args.to is
    (sym (c.is_hidden_class.ensures ∙ ap (λ (u : SidesOf). is_hidden u.old (name_at u.old c.args.from)) c.sides.view_is) ∙ c.if-not-is_hidden_class.true)

pub returns-then-not-is_hidden_class-2 : goal.returns-then-not-is_hidden_class-2
returns-then-not-is_hidden_class-2 c = λ on is.
    second_unhidden c.args.sides.now.old c.args.sides.now.new on c.args.from c.args.to is
    (sym (c.is_hidden_class-2.ensures ∙ ap (λ (u : SidesOf). is_hidden u.old (name_at u.old c.args.to)) c.sides.view_is) ∙ c.if-not-is_hidden_class-2.true)

pub first_handed-requires-clause-from_hidden : goal.first_handed-requires-clause-from_hidden
first_handed-requires-clause-from_hidden c = sym (c.is_hidden_class.ensures ∙ ap (λ (u : SidesOf). is_hidden u.old (name_at u.old c.args.from)) c.sides.view_is) ∙ c.if-not-is_hidden_class.false

pub first_handed-requires-clause-to_hidden : goal.first_handed-requires-clause-to_hidden
first_handed-requires-clause-to_hidden c = sym (c.is_hidden_class-2.ensures ∙ ap (λ (u : SidesOf). is_hidden u.old (name_at u.old c.args.to)) c.sides.view_is) ∙ c.if-not-is_hidden_class-2.false

pub first_handed-requires-clause-from_wanted : goal.first_handed-requires-clause-from_wanted
first_handed-requires-clause-from_wanted c = c.requires.from_covered (sym (c.is_hidden_class.ensures ∙ ap (λ (u : SidesOf). is_hidden u.old (name_at u.old c.args.from)) c.sides.view_is) ∙ c.if-not-is_hidden_class.false)

pub first_handed-requires-clause-to_wanted : goal.first_handed-requires-clause-to_wanted
first_handed-requires-clause-to_wanted c = c.requires.to_covered (sym (c.is_hidden_class-2.ensures ∙ ap (λ (u : SidesOf). is_hidden u.old (name_at u.old c.args.to)) c.sides.view_is) ∙ c.if-not-is_hidden_class-2.false)

pub returns-in-Some : goal.returns-in-Some
returns-in-Some c = λ on is. seat_serves c.args.sides.now.old c.args.sides.now.new on c.args.from c.args.to is c.in-Some.seat.now c.in-Some.ensures

pub returns-in-None : goal.returns-in-None
returns-in-None c = λ on is. no_seat_serves c.args.sides.now.old c.args.sides.now.new on c.args.from c.args.to is c.in-None.ensures
