use Rattle.std.proofs.Common.{◌≡◌, Option, Some, None, map, refl, sym, ap, ◌∙◌, slice_index_or, option_map, arith}
use Rattle.jc_facts.specs.declared.act.Act.{Act}
use Rattle.jc_facts.specs.declared.act.Act.TheVariants.{ClassRef}
use Rattle.jc_facts.specs.declared.link_error.LinkError.{LinkError}
use Rattle.jc_facts.specs.Names.{Bytes}
use Rattle.jc_sides.specs.SharedOf.{name_of}
use Rattle.jc_acts.specs.Seats.{all_seats}
use Rattle.jc_acts.specs.steps.Firsts.{first_at, closed_on}
use Rattle.jc_acts.proofs.Firsts.{first_closed}
use Rattle.jc_acts.proofs.Steps.{first_here, first_next, first_end}
use Rattle.jc_acts.proofs.plain.first_closed.Goals as goal

pub loop-act-preserved : goal.loop-act-preserved
loop-act-preserved c =
    let f : Act → Option (Bytes × LinkError) = λ what. first_at (closed_on c.args.sides.now (name_of c.args.class.now) c.args.key.now what) (all_seats c.args.sides.now) in
    let e : first_at (closed_on c.args.sides.now (name_of c.args.class.now) c.args.key.now (slice_index_or c.args.acts.now c.loop-act.act-index ClassRef)) (map name_of c.as_slice-all.result.now) ≡ f (slice_index_or c.args.acts.now c.loop-act.act-index ClassRef) = ap (λ bs. first_at (closed_on c.args.sides.now (name_of c.args.class.now) c.args.key.now (slice_index_or c.args.acts.now c.loop-act.act-index ClassRef)) (map name_of bs)) c.as_slice-all.ensures.value ∙ ap (first_at (closed_on c.args.sides.now (name_of c.args.class.now) c.args.key.now (slice_index_or c.args.acts.now c.loop-act.act-index ClassRef))) c.requires.seats.all in
    sym (first_next f (λ a. a) (λ list. list) (λ y ys. refl) refl c.args.acts.now c.loop-act.act-index ClassRef (slice_index_or c.args.acts.now c.loop-act.act-index ClassRef) (omega arith) refl (sym e ∙ sym c.first_seat.ensures ∙ ap (option_map (λ p. (p.0.now, p.1))) c.in_default.is)) ∙ c.loop-act.invariant

pub returns-in-loop-act : goal.returns-in-loop-act
returns-in-loop-act c =
    let f : Act → Option (Bytes × LinkError) = λ what. first_at (closed_on c.args.sides.now (name_of c.args.class.now) c.args.key.now what) (all_seats c.args.sides.now) in
    let e : first_at (closed_on c.args.sides.now (name_of c.args.class.now) c.args.key.now (slice_index_or c.args.acts.now c.loop-act.act-index ClassRef)) (map name_of c.as_slice-all.result.now) ≡ f (slice_index_or c.args.acts.now c.loop-act.act-index ClassRef) = ap (λ bs. first_at (closed_on c.args.sides.now (name_of c.args.class.now) c.args.key.now (slice_index_or c.args.acts.now c.loop-act.act-index ClassRef)) (map name_of bs)) c.as_slice-all.ensures.value ∙ ap (first_at (closed_on c.args.sides.now (name_of c.args.class.now) c.args.key.now (slice_index_or c.args.acts.now c.loop-act.act-index ClassRef))) c.requires.seats.all in
    first_closed c.args.sides.now c.requires.seats.sides.old_side.differ (name_of c.args.class.now) c.args.key.now c.args.acts.now (Some (record { act = slice_index_or c.args.acts.now c.loop-act.act-index ClassRef; seat = c.in-Some.seat; error = c.in-Some.error }))
    (sym (first_here f (λ a. a) (λ list. list) (λ y ys. refl) refl c.args.acts.now c.loop-act.act-index ClassRef (slice_index_or c.args.acts.now c.loop-act.act-index ClassRef) (c.in-Some.seat.now, c.in-Some.error) (omega arith) refl (sym e ∙ sym c.first_seat.ensures ∙ ap (option_map (λ p. (p.0.now, p.1))) c.in-Some.is)) ∙ c.loop-act.invariant)

pub returns : goal.returns
returns c =
    let f : Act → Option (Bytes × LinkError) = λ what. first_at (closed_on c.args.sides.now (name_of c.args.class.now) c.args.key.now what) (all_seats c.args.sides.now) in
    first_closed c.args.sides.now c.requires.seats.sides.old_side.differ (name_of c.args.class.now) c.args.key.now c.args.acts.now None (sym (first_end f (λ a. a) (λ list. list) (λ y ys. refl) refl c.args.acts.now c.loop-act.act-index (omega arith)) ∙ c.loop-act.invariant)
