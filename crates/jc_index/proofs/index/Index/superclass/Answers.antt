use Rattle.std.proofs.Common.{◌<◌, sym, ◌∙◌, ap, subst, arith}
use Rattle.jc_facts.specs.world.World.{World, size}
use Rattle.jc_index.specs.Ids.{name_at, superclass_of}
use Rattle.jc_index.proofs.Keeps.{column-length, column-at, super-some}
use Rattle.jc_index.proofs.index.Index.superclass.Goals as goal

pub index-requires : goal.index-requires
index-requires c =
    let W : World = c.self.inside.classes in
    let l : c.args.id < size W = subst (λ (V : World). c.args.id < size V) (sym c.self.view_is) c.requires in
    omega (arith, column-length W (superclass_of W) c.self.inside.superclasses.items c.self.invariant.superclasses, c.number.ensures)

value : goal.returns-clause-value
value c =
    let W : World = c.self.inside.classes in
    let l : c.number.result < size W = subst (λ n. n < size W) (sym c.number.ensures) (subst (λ (V : World). c.args.id < size V) (sym c.self.view_is) c.requires) in
    c.index.ensures ∙ column-at W (superclass_of W) c.self.inside.superclasses.items c.number.result c.index.result.now c.self.invariant.superclasses l
    ∙ ap (λ n. superclass_of W (name_at W n)) c.number.ensures ∙ ap (λ (V : World). superclass_of V (name_at V c.args.id)) c.self.view_is

pub returns-clause-value : goal.returns-clause-value
returns-clause-value c = value c

pub returns-clause-of_table : goal.returns-clause-of_table
returns-clause-of_table c = super-some c.args.self.now (name_at c.args.self.now c.args.id) c.index.result.now (value c)
