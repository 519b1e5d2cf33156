use Rattle.std.proofs.Common.{◌≡◌, sym, ap, ◌∙◌, true}
use Rattle.jc_facts.specs.Names.{Bytes}
use Rattle.jc_promises.specs.rule.Exposed.{is_hidden}
use Rattle.jc_index.specs.Ids.{name_at}
use Rattle.jc_sides.specs.SidesOf.{SidesOf}
use Rattle.jc_call_lines.proofs.JoinLines.{not_hidden, still_there, is_told, lost_is, own_place}
use Rattle.jc_call_lines.proofs.JoinSeats.{joined_is}
use Rattle.jc_call_lines.proofs.joins.is_lost.Goals as goal

pub returns-then-not-is_hidden_class : goal.returns-then-not-is_hidden_class
returns-then-not-is_hidden_class c =
    let s : SidesOf = c.args.sides.now in
    not_hidden s (name_at s.old c.args.class) (name_at s.old c.args.target) (sym (c.is_hidden_class.ensures ∙ ap (λ (u : SidesOf). is_hidden u.old (name_at u.old c.args.target)) c.sides.view_is) ∙ c.if-not-is_hidden_class.true)

pub returns-then-is_still_assignable : goal.returns-then-is_still_assignable
returns-then-is_still_assignable c =
    let s : SidesOf = c.args.sides.now in
    still_there s (name_at s.old c.args.class) (name_at s.old c.args.target) c.is_still_assignable.result c.is_still_assignable.ensures c.if-is_still_assignable.true

pub is_still_assignable-requires-clause-differ : goal.is_still_assignable-requires-clause-differ
is_still_assignable-requires-clause-differ c = c.requires.seats.sides.old_side.differ

pub is_told-requires-clause-class_covered : goal.is_told-requires-clause-class_covered
is_told-requires-clause-class_covered c = (c.requires.served.all c.args.class c.requires.class c.requires.was).1

pub is_told-requires-clause-target_covered : goal.is_told-requires-clause-target_covered
is_told-requires-clause-target_covered c = λ hidden. (c.requires.served.all c.args.target c.requires.target (own_place c.args.sides.now (name_at c.args.sides.now.old c.args.target) hidden)).1 hidden

pub returns-then-is_told : goal.returns-then-is_told
returns-then-is_told c =
    let s : SidesOf = c.args.sides.now in
    is_told s (name_at s.old c.args.class) (name_at s.old c.args.target) c.requires.was c.is_still_assignable.result c.is_still_assignable.ensures c.if-is_still_assignable.false c.is_told.result c.is_told.ensures c.if-is_told.true

pub meets_any-requires-clause-others : goal.meets_any-requires-clause-others
meets_any-requires-clause-others c = c.requires.served.within

pub meets_any-requires-clause-class_covered : goal.meets_any-requires-clause-class_covered
meets_any-requires-clause-class_covered c = (c.requires.served.all c.args.class c.requires.class c.requires.was).1

pub meets_any-requires-clause-others_covered : goal.meets_any-requires-clause-others_covered
meets_any-requires-clause-others_covered c = c.requires.served.others

pub returns : goal.returns
returns c =
    let s : SidesOf = c.args.sides.now in
    let x : Bytes = name_at s.old c.args.class in
    let t : Bytes = name_at s.old c.args.target in
    let hidden : is_hidden s.old t ≡ true = sym (c.is_hidden_class.ensures ∙ ap (λ (u : SidesOf). is_hidden u.old (name_at u.old c.args.target)) c.sides.view_is) ∙ c.if-not-is_hidden_class.false in
    lost_is s x t c.requires.was c.is_still_assignable.result c.is_still_assignable.ensures c.if-is_still_assignable.false c.is_told.result c.is_told.ensures c.meets_any.result c.if-is_told.false hidden
    (c.meets_any.ensures ∙ joined_is s c.requires.seats.sides.old_side x t c.args.below.now c.requires.served.within (λ k l i. (c.requires.served.all k l i).0))
