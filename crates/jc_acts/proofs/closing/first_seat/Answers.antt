use Rattle.std.proofs.Common.{Option, Some, map, refl, sym, ap, ◌∙◌, arith}
use Rattle.jc_facts.specs.declared.link_error.LinkError.{LinkError}
use Rattle.jc_facts.specs.Names.{Bytes}
use Rattle.jc_sides.specs.SharedOf.{name_of, SharedOf}
use Rattle.jc_acts.specs.steps.LookedUp.{closed_use}
use Rattle.jc_acts.proofs.Steps.{first_here, first_next, first_end}
use Rattle.jc_acts.proofs.UsedAt.{none_closed}
use Rattle.jc_acts.proofs.closing.first_seat.Goals as goal

pub returns-then-is_other_kind : goal.returns-then-is_other_kind
returns-then-is_other_kind c =
    sym (none_closed c.args.sides.now (name_of c.args.class.now) c.args.looked.now c.args.act (sym c.is_other_kind.ensures ∙ c.if-is_other_kind.true) (map name_of c.args.seats.now))

pub loop-seat-preserved : goal.loop-seat-preserved
loop-seat-preserved c =
    let f : Bytes → Option LinkError = closed_use c.args.sides.now (name_of c.args.class.now) c.args.looked.now c.args.act in
    sym (first_next f name_of (map name_of) (λ y ys. refl) refl c.args.seats.now c.loop-seat.seat-index c.seat-item.result c.seat-item.result (omega arith) c.seat-item.is (sym c.closed_to.ensures ∙ c.in_default.is)) ∙ c.loop-seat.invariant

pub returns-in-loop-seat : goal.returns-in-loop-seat
returns-in-loop-seat c =
    let f : Bytes → Option LinkError = closed_use c.args.sides.now (name_of c.args.class.now) c.args.looked.now c.args.act in
    ap (λ (b : SharedOf). Some (name_of b, c.in-Some.error)) c.seat.view_is
    ∙ sym (first_here f name_of (map name_of) (λ y ys. refl) refl c.args.seats.now c.loop-seat.seat-index c.seat-item.result c.seat-item.result c.in-Some.error (omega arith) c.seat-item.is (sym c.closed_to.ensures ∙ c.in-Some.is)) ∙ c.loop-seat.invariant

pub returns : goal.returns
returns c =
    let f : Bytes → Option LinkError = closed_use c.args.sides.now (name_of c.args.class.now) c.args.looked.now c.args.act in
    sym (first_end f name_of (map name_of) (λ y ys. refl) refl c.args.seats.now c.loop-seat.seat-index (omega arith)) ∙ c.loop-seat.invariant
