use Rattle.std.proofs.Common.{Option, map, refl, sym, ap, ◌∙◌, slice_index_or, option_map, arith}
use Rattle.jc_facts.specs.declared.act.Act.{Act}
use Rattle.jc_facts.specs.declared.act.Act.TheVariants.{ClassRef}
use Rattle.jc_facts.specs.declared.link_error.LinkError.{LinkError}
use Rattle.jc_facts.specs.Names.{Bytes}
use Rattle.jc_sides.specs.SharedOf.{name_of}
use Rattle.jc_acts.specs.steps.Firsts.{first_at}
use Rattle.jc_acts.specs.steps.LookedUp.{closed_use}
use Rattle.jc_acts.proofs.Steps.{first_here, first_next, first_end}
use Rattle.jc_acts.proofs.closing.first_closed.Goals as goal

pub loop-act-preserved : goal.loop-act-preserved
loop-act-preserved c =
    let f : Act → Option (Bytes × LinkError) = λ what. first_at (closed_use c.args.sides.now (name_of c.args.class.now) c.args.looked.now what) (map name_of c.args.seats.now) in
    sym (first_next f (λ a. a) (λ list. list) (λ y ys. refl) refl c.args.acts.now c.loop-act.act-index ClassRef (slice_index_or c.args.acts.now c.loop-act.act-index ClassRef) (omega arith) refl (sym c.first_seat.ensures ∙ ap (option_map (λ p. (p.0.now, p.1))) c.in_default.is)) ∙ c.loop-act.invariant

pub returns-in-loop-act : goal.returns-in-loop-act
returns-in-loop-act c =
    let f : Act → Option (Bytes × LinkError) = λ what. first_at (closed_use c.args.sides.now (name_of c.args.class.now) c.args.looked.now what) (map name_of c.args.seats.now) in
    sym (first_here f (λ a. a) (λ list. list) (λ y ys. refl) refl c.args.acts.now c.loop-act.act-index ClassRef (slice_index_or c.args.acts.now c.loop-act.act-index ClassRef) (c.in-Some.seat.now, c.in-Some.error) (omega arith) refl (sym c.first_seat.ensures ∙ ap (option_map (λ p. (p.0.now, p.1))) c.in-Some.is)) ∙ c.loop-act.invariant

pub returns : goal.returns
returns c =
    let f : Act → Option (Bytes × LinkError) = λ what. first_at (closed_use c.args.sides.now (name_of c.args.class.now) c.args.looked.now what) (map name_of c.args.seats.now) in
    sym (first_end f (λ a. a) (λ list. list) (λ y ys. refl) refl c.args.acts.now c.loop-act.act-index (omega arith)) ∙ c.loop-act.invariant
