use Rattle.std.proofs.Common.{◌<◌, ℕ, List, sym, subst}
use Rattle.jc_facts.specs.world.World.{World, size}
use Rattle.jc_index.specs.Ids.{name_at}
use Rattle.jc_index.specs.Above.{AreAbove, AreRows}
use Rattle.jc_index.proofs.hierarchy.Hierarchy.interfaces.Goals as goal

pub row-requires : goal.row-requires
row-requires c =
    let W : World = c.self.inside.index in
    let r : AreRows W c.self.inside.interfaces = c.self.invariant.interfaces in
    subst (λ n. c.args.id < n) (sym r.count) (subst (λ (V : World). c.args.id < size V) (sym c.self.view_is) c.requires)

pub returns : goal.returns
returns c =
    let W : World = c.self.inside.index in
    let l : c.args.id < size W = subst (λ (V : World). c.args.id < size V) (sym c.self.view_is) c.requires in
    let r : AreRows W c.self.inside.interfaces = c.self.invariant.interfaces in
    subst (λ (V : World). AreAbove V (name_at V c.args.id) c.row.result.now) c.self.view_is
    (subst (λ (ids : List ℕ). AreAbove W (name_at W c.args.id) ids) (sym c.row.ensures) (r.above c.args.id l))
