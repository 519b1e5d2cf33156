use Rattle.std.proofs.Common.{sym, subst, ◌∙◌}
use Rattle.jc_facts.specs.world.Lookup.{interface_choices}
use Rattle.jc_facts.specs.world.World.{World}
use Rattle.jc_index.specs.steps.Choosing.{candidate_at, FindsAbove}
use Rattle.jc_index.specs.Ids.{name_at}
use Rattle.jc_index.specs.Lookups.{IsChoice}
use Rattle.jc_index.proofs.Numbers.{class_at}
use Rattle.jc_declared.proofs.InterfaceMethodLost.{inherits_none, inherits_found, inherits_over}
use Rattle.jc_declared.proofs.interface_method_lost.inherits.Goals as goal

pub returns-in_default : goal.returns-in_default
returns-in_default c = λ apart.
    let W = c.args.table.now in
    let x = name_at c.args.table.now c.args.class in
    let t = class_at W c.args.class c.count-classes.ensures.side.differ c.requires.class in
    inherits_none W x t.facts t.found c.requires.loads c.args.key.now apart (subst (λ o. IsChoice W o (interface_choices W x c.args.key.now)) c.in_default.is c.find_interface_method_by_number.ensures)

pub returns-then-are_inheritable : goal.returns-then-are_inheritable
returns-then-are_inheritable c = λ apart.
    let W = c.args.table.now in
    let x = name_at c.args.table.now c.args.class in
    let t = class_at W c.args.class c.count-classes.ensures.side.differ c.requires.class in
    inherits_found W x t.facts t.found c.requires.loads c.args.key.now apart c.in-Some.found (subst (λ o. IsChoice W o (interface_choices W x c.args.key.now)) c.in-Some.is c.find_interface_method_by_number.ensures)
    (sym c.are_inheritable.ensures ∙ c.if-are_inheritable.true)

pub returns : goal.returns
returns c = λ apart.
    let W = c.args.table.now in
    let x = name_at c.args.table.now c.args.class in
    let t = class_at W c.args.class c.count-classes.ensures.side.differ c.requires.class in
    c.is_some.ensures
    ∙ inherits_over W x t.facts t.found c.requires.loads c.args.key.now apart c.in-Some.found (subst (λ o. IsChoice W o (interface_choices W x c.args.key.now)) c.in-Some.is c.find_interface_method_by_number.ensures)
    (sym c.are_inheritable.ensures ∙ c.if-are_inheritable.false) c.any_candidate.result
    (subst (λ (V : World). FindsAbove V (name_at V c.args.class) (candidate_at V c.args.key.now) c.any_candidate.result) c.hierarchy.ensures c.any_candidate.ensures)
