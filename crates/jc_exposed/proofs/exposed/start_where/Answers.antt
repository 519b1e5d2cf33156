use Rattle.std.proofs.Common.{◌≡◌, refl, subst, take, false}
use Rattle.std.specs.List.{list_any}
use Rattle.jc_exposed.specs.Rows.{exposes_in}
use Rattle.jc_exposed.proofs.SeatStarts.{start_zero}
use Rattle.jc_exposed.proofs.exposed.start_where.Goals as goal

pub start_of-requires-clause-seats : goal.start_of-requires-clause-seats
start_of-requires-clause-seats c = (c.as_slice.ensures c.args.sides.now c.requires.seats).1

pub returns-then-wanted : goal.returns-then-wanted
returns-then-wanted c =
    subst (λ xs. list_any (λ a. exposes_in c.args.sides.now.old c.args.rows.now a c.args.id) (take c.start_of.result xs) ≡ false) (c.as_slice.ensures c.args.sides.now c.requires.seats).0 c.start_of.ensures

pub returns-else-wanted : goal.returns-else-wanted
returns-else-wanted c = start_zero c.args.sides.now c.args.rows.now c.args.id 0 refl
