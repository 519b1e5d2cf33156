use Rattle.std.proofs.Common.{Bool, Some, sym, ap, ◌∙◌, arith}
use Rattle.jc_facts.specs.Names.{Bytes}
use Rattle.jc_index.specs.Ids.{name_at}
use Rattle.jc_sides.specs.SharedOf.{name_of, SharedOf}
use Rattle.jc_exposed.specs.Apart.{is_other_for}
use Rattle.jc_exposed.proofs.SeatStarts.{seat_here, seat_next, seat_end}
use Rattle.jc_exposed.proofs.apart.first_other.Goals as goal

pub loop-other-preserved : goal.loop-other-preserved
loop-other-preserved c =
    let test : Bytes → Bool = is_other_for c.args.sides.now (name_at c.args.sides.now.old c.args.seat) c.args.class in
    sym (seat_next test c.args.others.now c.loop-other.other-index c.other-item.result c.other-item.result (omega arith) c.other-item.is (sym c.is_other_seat.ensures ∙ c.if-is_other_seat.false)) ∙ c.loop-other.invariant

pub returns-then-is_other_seat : goal.returns-then-is_other_seat
returns-then-is_other_seat c =
    let test : Bytes → Bool = is_other_for c.args.sides.now (name_at c.args.sides.now.old c.args.seat) c.args.class in
    ap (λ (b : SharedOf). Some (name_of b)) c.other.view_is
    ∙ sym (seat_here test c.args.others.now c.loop-other.other-index c.other-item.result c.other-item.result (omega arith) c.other-item.is (sym c.is_other_seat.ensures ∙ c.if-is_other_seat.true)) ∙ c.loop-other.invariant

pub returns : goal.returns
returns c =
    let test : Bytes → Bool = is_other_for c.args.sides.now (name_at c.args.sides.now.old c.args.seat) c.args.class in
    sym (seat_end test c.args.others.now c.loop-other.other-index (omega arith)) ∙ c.loop-other.invariant
