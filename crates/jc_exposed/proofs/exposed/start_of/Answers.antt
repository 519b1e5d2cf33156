use Rattle.std.proofs.Common.{◌≡◌, ◌+◌, Bool, sym, ◌∙◌, ap, subst, take, false, map}
use Rattle.std.specs.List.{list_any}
use Rattle.jc_facts.specs.Names.{Bytes}
use Rattle.jc_sides.specs.SharedOf.{name_of}
use Rattle.jc_exposed.specs.Rows.{exposes_in}
use Rattle.jc_exposed.proofs.SeatStarts.{start_next, start_end}
use Rattle.jc_exposed.proofs.exposed.start_of.Goals as goal

pub loop-seat-preserved : goal.loop-seat-preserved
loop-seat-preserved c =
    let test : Bytes → Bool = λ a. exposes_in c.args.sides.now.old c.args.rows.now a c.args.id in (
      ap (λ n. n + 1) c.loop-seat.invariant.0,
      start_next test c.args.seats.now c.loop-seat.seat-index c.seat-item.result c.seat-item.result c.loop-seat-test.true c.seat-item.is (sym c.is_seen_by.ensures ∙ c.if-is_seen_by.false) c.loop-seat.invariant.1,
    )

pub returns-then-is_seen_by : goal.returns-then-is_seen_by
returns-then-is_seen_by c =
    let test : Bytes → Bool = λ a. exposes_in c.args.sides.now.old c.args.rows.now a c.args.id in
    subst (λ n. list_any test (take n (map name_of c.args.seats.now)) ≡ false) (sym c.loop-seat.invariant.0) (start_end test c.args.seats.now c.loop-seat.seat-index c.loop-seat.invariant.1)

pub returns : goal.returns
returns c =
    let test : Bytes → Bool = λ a. exposes_in c.args.sides.now.old c.args.rows.now a c.args.id in
    subst (λ n. list_any test (take n (map name_of c.args.seats.now)) ≡ false) (sym c.loop-seat.invariant.0) (start_end test c.args.seats.now c.loop-seat.seat-index c.loop-seat.invariant.1)
