use Rattle.std.proofs.Common.{arith, inl, inr}
use Rattle.jc_calls.specs.Lines.{line_order}
use Rattle.jc_call_kinds.specs.declared.call_line.CallKind.TheVariants.{Joined, Constants}
use Rattle.jc_call_lines.specs.steps.Kinds.{OfKind}
use Rattle.jc_sides.proofs.Limits.{some_within, none_within}
use Rattle.jc_call_lines.proofs.Joined.{OnClass, constants_later, joined, then_past}
use Rattle.jc_call_lines.proofs.lines.on_classes.Goals as goal

pub returns-in_default-2 : goal.returns-in_default-2
returns-in_default-2 c =
    let O = c.args.sides.now.old in
    let N = c.args.sides.now.new in
    then_past line_order (OfKind Joined O N) (OfKind Constants O N) (OnClass O N) (λ l p. inl p) (λ l p. inr p) (λ l p. p) (constants_later O N) c.args.most c.in-Some.first.items
    (some_within line_order (OfKind Joined O N) c.args.most (λ ls. ls.items) c.in_ok-first.field-0 c.in-Some.first c.in-Some.is c.in_ok-first.ensures) c.len.result c.left-room.result (omega (arith, c.len.ensures, c.in-Some.first.ok.0)) c.left-room.ensures
    (none_within line_order (OfKind Constants O N) c.left-room.result (λ ls. ls.items) c.in_ok-second.field-0 c.in_default-2.is c.in_ok-second.ensures)

pub returns : goal.returns
returns c =
    let O = c.args.sides.now.old in
    let N = c.args.sides.now.new in
    joined line_order (OfKind Joined O N) (OfKind Constants O N) (OnClass O N) (λ l p. inl p) (λ l p. inr p) (λ l p. p) (constants_later O N) c.args.most c.in-Some.first.items
    (some_within line_order (OfKind Joined O N) c.args.most (λ ls. ls.items) c.in_ok-first.field-0 c.in-Some.first c.in-Some.is c.in_ok-first.ensures) c.len.result c.left-room.result (omega (arith, c.len.ensures, c.in-Some.first.ok.0)) c.left-room.ensures
    c.in-Some-2.second.items c.append.new.self.items
    (some_within line_order (OfKind Constants O N) c.left-room.result (λ ls. ls.items) c.in_ok-second.field-0 c.in-Some-2.second c.in-Some-2.is c.in_ok-second.ensures) c.in_ok-append.ensures.items
