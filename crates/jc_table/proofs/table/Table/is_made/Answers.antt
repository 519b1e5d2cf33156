use Rattle.std.proofs.Common.{◌<◌, sym, subst, arith}
use Rattle.jc_facts.specs.world.World.{World, size}
use Rattle.jc_table.proofs.Rows.{made-length, made_at}
use Rattle.jc_table.proofs.table.Table.is_made.Goals as goal

pub index-requires : goal.index-requires
index-requires c =
    let W : World = c.self.inside.hierarchy in
    let l : c.args.id < size W = subst (λ (V : World). c.args.id < size V) (sym c.self.view_is) c.requires in
    let n = made-length W c.self.inside.rows.made.items c.self.invariant.rows.made in
    omega (arith, n, c.number.ensures)

pub returns : goal.returns
returns c = made_at c.self.inside.hierarchy c.args.self.now c.self.view_is c.self.inside.rows.made.items c.self.invariant.rows.made c.args.id c.number.result c.number.ensures c.requires c.index.result.now c.index.ensures
