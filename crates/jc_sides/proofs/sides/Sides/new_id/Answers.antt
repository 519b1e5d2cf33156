use Rattle.std.proofs.Common.{◌<◌, sym, ◌∙◌, ap, subst, arith}
use Rattle.jc_facts.specs.world.World.{World, size}
use Rattle.jc_index.specs.Ids.{name_at, id_of}
use Rattle.jc_index.proofs.Keeps.{column-length, column-at, id-below}
use Rattle.jc_sides.specs.SidesOf.{SidesOf}
use Rattle.jc_sides.proofs.sides.Sides.new_id.Goals as goal

pub index-requires : goal.index-requires
index-requires c =
    let W : World = c.self.inside.old.now in
    let l : c.args.id < size W = subst (λ (s : SidesOf). c.args.id < size s.old) (sym c.self.view_is) c.requires in
    omega (arith, column-length W (id_of c.self.inside.new.now) c.self.inside.new_ids.items c.self.invariant.new_ids, c.number.ensures)

value : goal.returns-clause-value
value c =
    let W : World = c.self.inside.old.now in
    let V : World = c.self.inside.new.now in
    let l : c.number.result < size W = subst (λ n. n < size W) (sym c.number.ensures) (subst (λ (s : SidesOf). c.args.id < size s.old) (sym c.self.view_is) c.requires) in
    c.index.ensures ∙ column-at W (id_of V) c.self.inside.new_ids.items c.number.result c.index.result.now c.self.invariant.new_ids l
    ∙ ap (λ n. id_of V (name_at W n)) c.number.ensures ∙ ap (λ (s : SidesOf). id_of s.new (name_at s.old c.args.id)) c.self.view_is

pub returns-clause-value : goal.returns-clause-value
returns-clause-value c = value c

pub returns-clause-of_table : goal.returns-clause-of_table
returns-clause-of_table c = id-below c.args.self.now.new (name_at c.args.self.now.old c.args.id) c.index.result.now (sym (value c))
