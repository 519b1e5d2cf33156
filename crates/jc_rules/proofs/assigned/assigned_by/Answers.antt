use Rattle.std.proofs.Common.{sym, ap, ◌∙◌}
use Rattle.std.specs.List.{list_all}
use Rattle.jc_promises.specs.rule.Exposed.{is_hidden}
use Rattle.jc_index.specs.Ids.{name_at}
use Rattle.jc_sides.specs.SidesOf.{SidesOf}
use Rattle.jc_rules.proofs.Assignments.{all_hidden, all_wanted, none_hidden, seat_of, no_seat_of}
use Rattle.jc_rules.proofs.assigned.assigned_by.Goals as goal

pub returns-then-not-are_hidden : goal.returns-then-not-are_hidden
returns-then-not-are_hidden c = λ on.
    none_hidden c.args.sides.now.old c.args.sides.now.new on c.args.ids.now
    (sym (c.are_hidden.ensures ∙ ap (λ (u : SidesOf). list_all (λ t. is_hidden u.old (name_at u.old t)) c.args.ids.now) c.sides.view_is) ∙ c.if-not-are_hidden.true)

pub first_exposed-requires-clause-hidden : goal.first_exposed-requires-clause-hidden
first_exposed-requires-clause-hidden c =
    all_hidden c.args.sides.now.old c.args.ids.now (sym (c.are_hidden.ensures ∙ ap (λ (u : SidesOf). list_all (λ t. is_hidden u.old (name_at u.old t)) c.args.ids.now) c.sides.view_is) ∙ c.if-not-are_hidden.false)

pub first_exposed-requires-clause-wanted : goal.first_exposed-requires-clause-wanted
first_exposed-requires-clause-wanted c =
    all_wanted c.args.sides.now.old c.args.exposed.now c.args.ids.now (sym (c.are_hidden.ensures ∙ ap (λ (u : SidesOf). list_all (λ t. is_hidden u.old (name_at u.old t)) c.args.ids.now) c.sides.view_is) ∙ c.if-not-are_hidden.false) c.requires.covered

pub returns-in-Some : goal.returns-in-Some
returns-in-Some c = λ on. seat_of c.args.sides.now.old c.args.sides.now.new on c.args.ids.now c.in-Some.seat.now c.in-Some.ensures

pub returns-in-None : goal.returns-in-None
returns-in-None c = λ on. no_seat_of c.args.sides.now.old c.args.sides.now.new on c.args.ids.now c.in-None.ensures
