use Rattle.std.proofs.Common.{◌<◌, sym, ◌∙◌, subst, arith}
use Rattle.jc_facts.specs.world.World.{World, size}
use Rattle.jc_rows.specs.Rows.{IsMethodRow}
use Rattle.jc_table.proofs.Rows.{row_at}
use Rattle.jc_table.proofs.table.Table.method_row.Goals as goal

pub index-requires : goal.index-requires
index-requires c =
    let W : World = c.self.inside.hierarchy in
    let l : c.args.id < size W = subst (λ (V : World). c.args.id < size V) (sym c.self.view_is) c.requires.class in
    let n = c.self.invariant.rows.methods.count in
    omega (arith, n, c.number.ensures)

pub returns-then-is_made-clause-row : goal.returns-then-is_made-clause-row
returns-then-is_made-clause-row c =
    row_at IsMethodRow c.self.inside.hierarchy c.args.self.now c.self.view_is c.self.inside.rows.methods.items c.self.invariant.rows.methods c.args.id c.number.result c.number.ensures c.requires.class c.requires.loads
    (sym c.is_made.ensures ∙ c.if-is_made.true) c.index.result.now c.as_slice.result.now c.index.ensures c.as_slice.ensures

pub returns-then-is_made-clause-made : goal.returns-then-is_made-clause-made
returns-then-is_made-clause-made c = sym c.if-is_made.true ∙ c.is_made.ensures

pub returns-else-is_made-clause-made : goal.returns-else-is_made-clause-made
returns-else-is_made-clause-made c = sym c.if-is_made.false ∙ c.is_made.ensures
