use Rattle.std.proofs.Common.{◌<◌, Option, ℕ, List, sym, ◌∙◌, ap, subst, arith}
use Rattle.std.specs.Prelude.{IfSome}
use Rattle.std.specs.List.{All}
use Rattle.jc_facts.specs.world.World.{World, size}
use Rattle.jc_index.specs.Ids.{name_at}
use Rattle.jc_index.specs.Interfaces.{interfaces_of}
use Rattle.jc_index.proofs.Keeps.{column-length, column-at, interfaces-below}
use Rattle.jc_index.proofs.index.Index.interfaces.Goals as goal

pub index-requires : goal.index-requires
index-requires c =
    let W : World = c.self.inside.classes in
    let l : c.args.id < size W = subst (λ (V : World). c.args.id < size V) (sym c.self.view_is) c.requires in
    omega (arith, column-length W (interfaces_of W) c.self.inside.interfaces.items c.self.invariant.interfaces, c.number.ensures)

value : goal.returns-clause-value
value c =
    let W : World = c.self.inside.classes in
    let l : c.number.result < size W = subst (λ n. n < size W) (sym c.number.ensures) (subst (λ (V : World). c.args.id < size V) (sym c.self.view_is) c.requires) in
    c.as_slice.ensures ∙ c.index.ensures ∙ column-at W (interfaces_of W) c.self.inside.interfaces.items c.number.result c.index.result.now c.self.invariant.interfaces l
    ∙ ap (λ n. interfaces_of W (name_at W n)) c.number.ensures ∙ ap (λ (V : World). interfaces_of V (name_at V c.args.id)) c.self.view_is

pub returns-clause-value : goal.returns-clause-value
returns-clause-value c = value c

pub returns-clause-of_table : goal.returns-clause-of_table
returns-clause-of_table c = subst (λ (os : List (Option ℕ)). All (λ o. IfSome o (λ id. id < size c.args.self.now)) os) (sym (value c)) (interfaces-below c.args.self.now (name_at c.args.self.now c.args.id))
