use Rattle.std.proofs.Common.{◌<◌, sym, ◌∙◌, ap, subst, arith}
use Rattle.jc_facts.specs.world.World.{World, size}
use Rattle.jc_facts.specs.world.Loading.{load_fault}
use Rattle.jc_index.specs.Ids.{name_at}
use Rattle.jc_loading.proofs.Turns.{faults-length, faults-at}
use Rattle.jc_table.proofs.table.Table.fault_at.Goals as goal

pub index-requires : goal.index-requires
index-requires c =
    let W : World = c.self.inside.hierarchy in
    let l : c.args.id < size W = subst (λ (V : World). c.args.id < size V) (sym c.self.view_is) c.requires in
    omega (arith, c.self.inside.faults.ok.0, faults-length W c.self.inside.faults.items c.self.invariant.faults, c.number.ensures)

pub returns : goal.returns
returns c =
    let W : World = c.self.inside.hierarchy in
    let l : c.number.result < size W = subst (λ n. n < size W) (sym c.number.ensures) (subst (λ (V : World). c.args.id < size V) (sym c.self.view_is) c.requires) in
    c.index.ensures ∙ faults-at W c.self.inside.faults.items c.number.result c.index.result.now c.self.invariant.faults l
    ∙ ap (λ n. load_fault W (name_at W n)) c.number.ensures ∙ ap (λ (V : World). load_fault V (name_at V c.args.id)) c.self.view_is
