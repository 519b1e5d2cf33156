use Rattle.std.proofs.Common.{arith}
use Rattle.jc_calls.specs.Lines.{line_order, LineStands}
use Rattle.jc_sides.proofs.Limits.{some_within, none_within}
use Rattle.jc_call_lines.proofs.Joined.{OnMethod, OnClass, classes_later, stands_first, stands_then, each_kind, joined, then_past}
use Rattle.jc_call_lines.proofs.lines.limited.Goals as goal

pub returns-in_default-2 : goal.returns-in_default-2
returns-in_default-2 c =
    let O = c.args.sides.now.old in
    let N = c.args.sides.now.new in
    then_past line_order (OnMethod O N) (OnClass O N) (LineStands O N) (stands_first O N) (stands_then O N) (each_kind O N) (classes_later O N) c.args.most c.in-Some.first.items
    (some_within line_order (OnMethod O N) c.args.most (λ ls. ls.items) c.in_ok-first.field-0 c.in-Some.first c.in-Some.is c.in_ok-first.ensures) c.len.result c.left-room.result (omega (arith, c.len.ensures, c.in-Some.first.ok.0)) c.left-room.ensures
    (none_within line_order (OnClass O N) c.left-room.result (λ ls. ls.items) c.in_ok-second.field-0 c.in_default-2.is c.in_ok-second.ensures)

pub returns : goal.returns
returns c =
    let O = c.args.sides.now.old in
    let N = c.args.sides.now.new in
    joined line_order (OnMethod O N) (OnClass O N) (LineStands O N) (stands_first O N) (stands_then O N) (each_kind O N) (classes_later O N) c.args.most c.in-Some.first.items
    (some_within line_order (OnMethod O N) c.args.most (λ ls. ls.items) c.in_ok-first.field-0 c.in-Some.first c.in-Some.is c.in_ok-first.ensures) c.len.result c.left-room.result (omega (arith, c.len.ensures, c.in-Some.first.ok.0)) c.left-room.ensures
    c.in-Some-2.second.items c.append.new.self.items
    (some_within line_order (OnClass O N) c.left-room.result (λ ls. ls.items) c.in_ok-second.field-0 c.in-Some-2.second c.in-Some-2.is c.in_ok-second.ensures) c.in_ok-append.ensures.items
