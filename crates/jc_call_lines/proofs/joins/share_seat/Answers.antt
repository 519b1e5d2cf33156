use Rattle.std.proofs.Common.{◌∙◌}
use Rattle.jc_facts.specs.Names.{Bytes}
use Rattle.jc_promises.specs.rule.Bases.{is_kept}
use Rattle.jc_index.specs.Ids.{name_at}
use Rattle.jc_sides.specs.SidesOf.{SidesOf}
use Rattle.jc_call_lines.proofs.JoinSeats.{kept_some, kept_none, both_kept, second_hidden, first_hidden, both_hidden}
use Rattle.jc_call_lines.proofs.joins.share_seat.Goals as goal

pub returns-then-other_is_kept : goal.returns-then-other_is_kept
returns-then-other_is_kept c =
    let s : SidesOf = c.args.sides.now in
    let x : Bytes = name_at s.old c.args.class in
    let y : Bytes = name_at s.old c.args.other in
    both_kept s c.args.class c.args.other
    (kept_some (is_kept s.old s.new x) s x c.kept.result c.kept.ensures c.is_some-class_is_kept.result c.if-class_is_kept.true c.is_some-class_is_kept.ensures)
    (kept_some (is_kept s.old s.new y) s y c.kept-2.result c.kept-2.ensures c.is_some-other_is_kept.result c.if-other_is_kept.true c.is_some-other_is_kept.ensures)

pub returns-then-class_is_kept : goal.returns-then-class_is_kept
returns-then-class_is_kept c =
    let s : SidesOf = c.args.sides.now in
    let x : Bytes = name_at s.old c.args.class in
    let y : Bytes = name_at s.old c.args.other in
    c.are_shown.ensures ∙ second_hidden s c.args.class c.args.other
    (kept_some (is_kept s.old s.new x) s x c.kept.result c.kept.ensures c.is_some-class_is_kept.result c.if-class_is_kept.true c.is_some-class_is_kept.ensures)
    (kept_none (is_kept s.old s.new y) s y c.kept-2.result c.kept-2.ensures c.is_some-other_is_kept.result c.if-other_is_kept.false c.is_some-other_is_kept.ensures)

pub returns-then-other_is_kept-2 : goal.returns-then-other_is_kept-2
returns-then-other_is_kept-2 c =
    let s : SidesOf = c.args.sides.now in
    let x : Bytes = name_at s.old c.args.class in
    let y : Bytes = name_at s.old c.args.other in
    c.are_shown-then-other_is_kept-2.ensures ∙ first_hidden s c.args.class c.args.other
    (kept_none (is_kept s.old s.new x) s x c.kept.result c.kept.ensures c.is_some-class_is_kept.result c.if-class_is_kept.false c.is_some-class_is_kept.ensures)
    (kept_some (is_kept s.old s.new y) s y c.kept-2.result c.kept-2.ensures c.is_some-other_is_kept.result c.if-other_is_kept-2.true c.is_some-other_is_kept.ensures)

pub returns : goal.returns
returns c =
    let s : SidesOf = c.args.sides.now in
    let x : Bytes = name_at s.old c.args.class in
    let y : Bytes = name_at s.old c.args.other in
    c.are_shown-2.ensures ∙ both_hidden s c.args.class c.args.other
    (kept_none (is_kept s.old s.new x) s x c.kept.result c.kept.ensures c.is_some-class_is_kept.result c.if-class_is_kept.false c.is_some-class_is_kept.ensures)
    (kept_none (is_kept s.old s.new y) s y c.kept-2.result c.kept-2.ensures c.is_some-other_is_kept.result c.if-other_is_kept-2.false c.is_some-other_is_kept.ensures)
