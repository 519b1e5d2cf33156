use Rattle.std.proofs.Common.{◌<◌, ◌==◌, ℕ, List, sym, ◌∙◌, ap, subst}
use Rattle.std.specs.List.{list_any}
use Rattle.jc_facts.specs.world.World.{World, size}
use Rattle.jc_index.specs.Ids.{name_at}
use Rattle.jc_index.specs.Above.{AreRows, leads_by}
use Rattle.jc_index.proofs.hierarchy.Hierarchy.leads_to.Goals as goal

pub row-requires : goal.row-requires
row-requires c =
    let W : World = c.self.inside.index in
    let r : AreRows W c.self.inside.interfaces = c.self.invariant.interfaces in
    subst (λ n. c.args.id < n) (sym r.count) (subst (λ (V : World). c.args.id < size V) (sym c.self.view_is) c.requires.class)

pub returns : goal.returns
returns c =
    let W : World = c.self.inside.index in
    let l : c.args.id < size W = subst (λ (V : World). c.args.id < size V) (sym c.self.view_is) c.requires.class in
    let m : c.args.of < size W = subst (λ (V : World). c.args.of < size V) (sym c.self.view_is) c.requires.above in
    let r : AreRows W c.self.inside.interfaces = c.self.invariant.interfaces in
    let a = r.above c.args.id l in
    c.contains.ensures.value ∙ ap (λ (ids : List ℕ). list_any (λ n. n == c.args.of) ids) c.row.ensures
    ∙ a.exact c.args.of m ∙ ap (λ (V : World). leads_by V (name_at V c.args.id) (name_at V c.args.of)) c.self.view_is
