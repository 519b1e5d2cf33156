use Rattle.std.proofs.Common.{sym, subst, Option}
use Rattle.jc_facts.specs.Options.{and_then}
use Rattle.jc_facts.specs.world.World.{find_class, declared_method}
use Rattle.jc_facts.specs.world.Lookup.{public_method_of_object}
use Rattle.jc_index.specs.Ids.{name_at}
use Rattle.jc_index.specs.Lookups.{IsAnswer}
use Rattle.jc_index.specs.declared.ids.Found.{Found}
use Rattle.jc_method.proofs.Chains.{own_answer}
use Rattle.jc_index.proofs.Lookups.{answer_or, answer_else}
use Rattle.jc_method.proofs.walk.own_or_object.Goals as goal

pub returns-in-Some : goal.returns-in-Some
returns-in-Some c =
    answer_or c.args.table.now c.in-Some.found (and_then (declared_method c.args.key.now) (find_class c.args.table.now (name_at c.args.table.now c.args.class))) (public_method_of_object c.args.table.now c.args.key.now)
    (subst (λ (o : Option Found). IsAnswer c.args.table.now o (and_then (declared_method c.args.key.now) (find_class c.args.table.now (name_at c.args.table.now c.args.class)))) (sym c.in-Some.ensures) (own_answer c.args.table.now c.args.key.now c.args.class c.requires))

pub returns-in-None : goal.returns-in-None
returns-in-None c =
    answer_else c.args.table.now c.object_method.result (and_then (declared_method c.args.key.now) (find_class c.args.table.now (name_at c.args.table.now c.args.class))) (public_method_of_object c.args.table.now c.args.key.now)
    (subst (λ (o : Option Found). IsAnswer c.args.table.now o (and_then (declared_method c.args.key.now) (find_class c.args.table.now (name_at c.args.table.now c.args.class)))) (sym c.in-None.ensures) (own_answer c.args.table.now c.args.key.now c.args.class c.requires))
    c.object_method.ensures
