use Rattle.std.proofs.Common.{Bool, Some, map, sym, ap, ◌∙◌, arith}
use Rattle.jc_facts.specs.Names.{Bytes}
use Rattle.jc_sides.specs.SharedOf.{name_of, SharedOf}
use Rattle.jc_exposed.specs.Apart.{hands_on}
use Rattle.jc_exposed.proofs.SeatStarts.{seat_here, seat_next, seat_end}
use Rattle.jc_exposed.proofs.apart.first_handing.Goals as goal

pub loop-seat-preserved : goal.loop-seat-preserved
loop-seat-preserved c =
    let test : Bytes → Bool = hands_on c.args.sides.now c.args.from c.args.to (map name_of c.args.others.now) in
    sym (seat_next test c.args.seats.now c.loop-seat.seat-index c.seat-item.result c.seat-item.result (omega arith) c.seat-item.is (sym c.is_handing.ensures ∙ c.if-is_handing.false)) ∙ c.loop-seat.invariant

pub returns-then-is_handing : goal.returns-then-is_handing
returns-then-is_handing c =
    let test : Bytes → Bool = hands_on c.args.sides.now c.args.from c.args.to (map name_of c.args.others.now) in
    ap (λ (b : SharedOf). Some (name_of b)) c.seat.view_is
    ∙ sym (seat_here test c.args.seats.now c.loop-seat.seat-index c.seat-item.result c.seat-item.result (omega arith) c.seat-item.is (sym c.is_handing.ensures ∙ c.if-is_handing.true)) ∙ c.loop-seat.invariant

pub returns : goal.returns
returns c =
    let test : Bytes → Bool = hands_on c.args.sides.now c.args.from c.args.to (map name_of c.args.others.now) in
    sym (seat_end test c.args.seats.now c.loop-seat.seat-index (omega arith)) ∙ c.loop-seat.invariant
