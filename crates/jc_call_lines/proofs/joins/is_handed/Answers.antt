use Rattle.std.proofs.Common.{is_some, sym, ap, ◌∙◌}
use Rattle.jc_promises.specs.rule.Exposed.{is_hidden}
use Rattle.jc_index.specs.Ids.{name_at}
use Rattle.jc_index.proofs.Numbers.{some-map}
use Rattle.jc_sides.specs.SidesOf.{SidesOf}
use Rattle.jc_call_lines.proofs.JoinSeats.{first_seen, second_seen}
use Rattle.jc_call_lines.proofs.joins.is_handed.Goals as goal

pub returns-then-not-is_hidden_class : goal.returns-then-not-is_hidden_class
returns-then-not-is_hidden_class c =
    first_seen c.args.sides.now c.args.class c.args.target (sym (c.is_hidden_class.ensures ∙ ap (λ (u : SidesOf). is_hidden u.old (name_at u.old c.args.class)) c.sides.view_is) ∙ c.if-not-is_hidden_class.true)

pub returns-then-not-is_hidden_class-2 : goal.returns-then-not-is_hidden_class-2
returns-then-not-is_hidden_class-2 c =
    second_seen c.args.sides.now c.args.class c.args.target (sym (c.is_hidden_class-2.ensures ∙ ap (λ (u : SidesOf). is_hidden u.old (name_at u.old c.args.target)) c.sides.view_is) ∙ c.if-not-is_hidden_class-2.true)

pub first_handed-requires-clause-from_hidden : goal.first_handed-requires-clause-from_hidden
first_handed-requires-clause-from_hidden c = sym (c.is_hidden_class.ensures ∙ ap (λ (u : SidesOf). is_hidden u.old (name_at u.old c.args.class)) c.sides.view_is) ∙ c.if-not-is_hidden_class.false

pub first_handed-requires-clause-to_hidden : goal.first_handed-requires-clause-to_hidden
first_handed-requires-clause-to_hidden c = sym (c.is_hidden_class-2.ensures ∙ ap (λ (u : SidesOf). is_hidden u.old (name_at u.old c.args.target)) c.sides.view_is) ∙ c.if-not-is_hidden_class-2.false

pub first_handed-requires-clause-from_wanted : goal.first_handed-requires-clause-from_wanted
first_handed-requires-clause-from_wanted c = c.requires.class_covered (sym (c.is_hidden_class.ensures ∙ ap (λ (u : SidesOf). is_hidden u.old (name_at u.old c.args.class)) c.sides.view_is) ∙ c.if-not-is_hidden_class.false)

pub first_handed-requires-clause-to_wanted : goal.first_handed-requires-clause-to_wanted
first_handed-requires-clause-to_wanted c = c.requires.target_covered (sym (c.is_hidden_class-2.ensures ∙ ap (λ (u : SidesOf). is_hidden u.old (name_at u.old c.args.target)) c.sides.view_is) ∙ c.if-not-is_hidden_class-2.false)

pub returns : goal.returns
returns c = c.is_some.ensures ∙ sym (some-map (λ n. n.now) c.first_handed.result) ∙ ap is_some c.first_handed.ensures
