use Rattle.std.proofs.Common.{◌≡◌, ◌≤◌, ◌-◌, arith, drop, false, length, map, sym, ap, subst, take, ◌∙◌}
use Rattle.std.proofs.lemmas.List.{length-drop, take_all}
use Rattle.std.specs.List.{list_any, find as first_where}
use Rattle.jc_sides.specs.SharedOf.{name_of}
use Rattle.jc_acts.proofs.Firsts.{seat_is}
use Rattle.jc_exposed.proofs.SeatStarts.{first_past, none_behind, start_for}
use Rattle.jc_exposed.proofs.exposed.seats_from.Goals as goal

pub returns-then-start-all-clause-first : goal.returns-then-start-all-clause-first
returns-then-start-all-clause-first c = λ test h.
    let all = (c.as_slice-all.ensures c.args.sides.now c.requires.seats).0 in
    let begins = start_for c.args.sides.now c.args.id c.last_start-start.result test h c.last_start-start.ensures in
    let none : list_any test (take c.last_start-start.result (map name_of c.as_slice-all.result.now)) ≡ false = subst (λ xs. list_any test (take c.last_start-start.result xs) ≡ false) (sym all) begins in
    let l : length c.as_slice-all.result.now ≤ c.last_start-start.result = omega (arith, c.if-start-all.true) in
    sym (seat_is c.args.sides.now c.requires.seats.sides.old_side.differ test ∙ ap (first_where test) (sym all) ∙ none_behind test c.as_slice-all.result.now c.last_start-start.result l none)

pub returns-clause-first : goal.returns-clause-first
returns-clause-first c = λ test h.
    let all = (c.as_slice-all.ensures c.args.sides.now c.requires.seats).0 in
    let begins = start_for c.args.sides.now c.args.id c.last_start-start.result test h c.last_start-start.ensures in
    let none : list_any test (take c.last_start-start.result (map name_of c.as_slice-all.result.now)) ≡ false = subst (λ xs. list_any test (take c.last_start-start.result xs) ≡ false) (sym all) begins in
    ap (λ xs. first_where test (map name_of xs)) (take_all (length c.as_slice-all.result.now - c.last_start-start.result) (drop c.last_start-start.result c.as_slice-all.result.now) (let q = length-drop c.last_start-start.result c.as_slice-all.result.now in omega (arith, q)))
    ∙ first_past test c.as_slice-all.result.now c.last_start-start.result none ∙ ap (first_where test) all ∙ sym (seat_is c.args.sides.now c.requires.seats.sides.old_side.differ test)
