use Rattle.std.proofs.Common.{Bool, Some, sym, ap, ◌∙◌, arith}
use Rattle.jc_facts.specs.Names.{Bytes}
use Rattle.jc_sides.specs.SharedOf.{name_of, SharedOf}
use Rattle.jc_exposed.specs.Exposed.{are_all_exposed}
use Rattle.jc_exposed.proofs.SeatStarts.{seat_here, seat_next, seat_end}
use Rattle.jc_exposed.proofs.exposed.first_of.Goals as goal

pub loop-seat-preserved : goal.loop-seat-preserved
loop-seat-preserved c =
    let test : Bytes → Bool = are_all_exposed c.args.sides.now.old c.args.hidden.now in
    sym (seat_next test c.args.seats.now c.loop-seat.seat-index c.seat-item.result c.seat-item.result (omega arith) c.seat-item.is (sym c.are_exposed_to.ensures ∙ c.if-are_exposed_to.false)) ∙ c.loop-seat.invariant

pub returns-then-are_exposed_to : goal.returns-then-are_exposed_to
returns-then-are_exposed_to c =
    let test : Bytes → Bool = are_all_exposed c.args.sides.now.old c.args.hidden.now in
    ap (λ (b : SharedOf). Some (name_of b)) c.seat.view_is
    ∙ sym (seat_here test c.args.seats.now c.loop-seat.seat-index c.seat-item.result c.seat-item.result (omega arith) c.seat-item.is (sym c.are_exposed_to.ensures ∙ c.if-are_exposed_to.true)) ∙ c.loop-seat.invariant

pub returns : goal.returns
returns c =
    let test : Bytes → Bool = are_all_exposed c.args.sides.now.old c.args.hidden.now in
    sym (seat_end test c.args.seats.now c.loop-seat.seat-index (omega arith)) ∙ c.loop-seat.invariant
