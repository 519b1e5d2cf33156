use Rattle.std.proofs.Common.{◌<◌, ℕ, length, get_or, arith, ◌∙◌, ap, subst}
use Rattle.jc_facts.specs.world.World.{World, classes}
use Rattle.jc_index.proofs.Indexed.{count_is, within, named_there}
use Rattle.jc_index.proofs.named_classes.NamedClasses.place.Goals as goal

pub index-requires : goal.index-requires
index-requires c = let many = count_is c.self.inside c.self.invariant c.args.self.now c.self.view_is in omega arith

pub returns-clause-within : goal.returns-clause-within
returns-clause-within c =
    subst (λ (W : World). c.index.result.now < length (classes W)) c.self.view_is
    (within c.self.inside c.self.invariant c.args.self.now c.self.view_is c.args.id c.index.result.now c.requires (c.index.ensures ∙ ap (λ (k : ℕ). get_or c.self.inside.order.items k c.index.result.now) c.number.ensures))

pub returns-clause-named : goal.returns-clause-named
returns-clause-named c = named_there c.self.inside c.self.invariant c.args.self.now c.self.view_is c.args.id c.index.result.now c.requires (c.index.ensures ∙ ap (λ (k : ℕ). get_or c.self.inside.order.items k c.index.result.now) c.number.ensures)
