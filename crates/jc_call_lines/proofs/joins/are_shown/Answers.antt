use Rattle.std.proofs.Common.{is_some, sym, ap, ◌∙◌}
use Rattle.std.specs.List.{list_all}
use Rattle.jc_promises.specs.rule.Exposed.{is_hidden}
use Rattle.jc_index.specs.Ids.{name_at}
use Rattle.jc_index.proofs.Numbers.{some-map}
use Rattle.jc_sides.specs.SidesOf.{SidesOf}
use Rattle.jc_call_lines.proofs.JoinSeats.{all_hidden, all_wanted, none_shown}
use Rattle.jc_call_lines.proofs.joins.are_shown.Goals as goal

pub returns-then-not-are_hidden : goal.returns-then-not-are_hidden
returns-then-not-are_hidden c =
    sym (none_shown c.args.sides.now.old c.args.sides.now.new c.args.ids.now
    (sym (c.are_hidden.ensures ∙ ap (λ (u : SidesOf). list_all (λ t. is_hidden u.old (name_at u.old t)) c.args.ids.now) c.sides.view_is) ∙ c.if-not-are_hidden.true))

pub first_exposed-requires-clause-hidden : goal.first_exposed-requires-clause-hidden
first_exposed-requires-clause-hidden c =
    all_hidden c.args.sides.now.old c.args.ids.now (sym (c.are_hidden.ensures ∙ ap (λ (u : SidesOf). list_all (λ t. is_hidden u.old (name_at u.old t)) c.args.ids.now) c.sides.view_is) ∙ c.if-not-are_hidden.false)

pub first_exposed-requires-clause-wanted : goal.first_exposed-requires-clause-wanted
first_exposed-requires-clause-wanted c =
    all_wanted c.args.sides.now.old c.args.exposed.now c.args.ids.now (sym (c.are_hidden.ensures ∙ ap (λ (u : SidesOf). list_all (λ t. is_hidden u.old (name_at u.old t)) c.args.ids.now) c.sides.view_is) ∙ c.if-not-are_hidden.false) c.requires.covered

pub returns : goal.returns
returns c = c.is_some.ensures ∙ sym (some-map (λ n. n.now) c.first_exposed.result) ∙ ap is_some c.first_exposed.ensures
