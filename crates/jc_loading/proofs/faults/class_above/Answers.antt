use Rattle.std.proofs.Common.{◌≡◌, ◌<◌, ◌-◌, ℕ, suc, List, Option, sym, ◌∙◌, ap, subst, arith}
use Rattle.std.specs.Prelude.{IfSome, slice_get}
use Rattle.jc_facts.specs.Options.{and_then}
use Rattle.jc_facts.specs.world.World.{World, size}
use Rattle.jc_facts.specs.world.Search.{supers}
use Rattle.jc_index.specs.Ids.{id_of, name_at}
use Rattle.jc_index.proofs.Keeps.{interfaces_is}
use Rattle.jc_index.proofs.Numbers.{superclass_is}
use Rattle.jc_index.proofs.NamedAbove.{class-at, super-first, interface-next, interface-alone}
use Rattle.jc_index.proofs.Walking.{number-inside}
use Rattle.jc_loading.proofs.faults.class_above.Goals as goal

pub returns-then-at-eq0-clause-value : goal.returns-then-at-eq0-clause-value
returns-then-at-eq0-clause-value c =
    let W : World = c.args.index.now in
    let z : c.args.at ≡ 0 = omega arith in
    c.superclass.ensures.value ∙ superclass_is W (name_at W c.args.id) c.args.class.now c.requires.found
    ∙ super-first W c.args.class.now.interfaces c.args.class.now.superclass c.in-Some.field-0 c.args.at c.in-Some.is z

next : goal.returns-else-at-eq0-clause-value
next c =
    let W : World = c.args.index.now in
    let z : c.args.at ≡ suc (c.args.at - 1) = omega arith in
    c.class_at.ensures
    ∙ ap (λ (os : List (Option ℕ)). and_then (λ (o : Option ℕ). o) (slice_get os (c.args.at - 1))) (c.interfaces-interfaces.ensures.value ∙ interfaces_is W (name_at W c.args.id) c.args.class.now c.requires.found)
    ∙ class-at (id_of W) c.args.class.now.interfaces (c.args.at - 1)
    ∙ interface-next W c.args.class.now.interfaces c.args.class.now.superclass c.in-Some.field-0 c.args.at (c.args.at - 1) c.in-Some.is z

pub returns-else-at-eq0-clause-value : goal.returns-else-at-eq0-clause-value
returns-else-at-eq0-clause-value c = next c

pub returns-else-at-eq0-clause-of_table : goal.returns-else-at-eq0-clause-of_table
returns-else-at-eq0-clause-of_table c =
    subst (λ (o : Option ℕ). IfSome o (λ id. id < size c.args.index.now)) (sym (next c)) (number-inside c.args.index.now (slice_get (supers c.args.class.now) c.args.at))

alone : goal.returns-in-None-clause-value
alone c =
    let W : World = c.args.index.now in
    c.class_at-in-None.ensures
    ∙ ap (λ (os : List (Option ℕ)). and_then (λ (o : Option ℕ). o) (slice_get os c.args.at)) (c.interfaces-interfaces.ensures.value ∙ interfaces_is W (name_at W c.args.id) c.args.class.now c.requires.found)
    ∙ class-at (id_of W) c.args.class.now.interfaces c.args.at
    ∙ interface-alone W c.args.class.now.interfaces c.args.class.now.superclass c.args.at c.in-None.is

pub returns-in-None-clause-value : goal.returns-in-None-clause-value
returns-in-None-clause-value c = alone c

pub returns-in-None-clause-of_table : goal.returns-in-None-clause-of_table
returns-in-None-clause-of_table c =
    subst (λ (o : Option ℕ). IfSome o (λ id. id < size c.args.index.now)) (sym (alone c)) (number-inside c.args.index.now (slice_get (supers c.args.class.now) c.args.at))
