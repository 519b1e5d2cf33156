use Rattle.std.proofs.Common.{◌≡◌, Some, None, sym, ◌∙◌}
use Rattle.jc_facts.specs.Options.{and_then}
use Rattle.jc_facts.specs.world.Loading.{fault_of_superclass, error_of_superclass}
use Rattle.jc_index.specs.Ids.{name_at, id_of}
use Rattle.jc_index.proofs.Numbers.{superclass_is}
use Rattle.jc_index.proofs.NamedAbove.{none-super, one-super}
use Rattle.jc_loading.proofs.supertypes.own_superclass_fault.Goals as goal

pub returns-in-None : goal.returns-in-None
unfolding fault_of_superclass
returns-in-None c =
    let W = c.args.index.now in
    let e : and_then (id_of W) c.args.class.now.superclass ≡ None = sym (c.in-None.ensures.value ∙ superclass_is W (name_at W c.args.id) c.args.class.now c.requires.at) in
    sym (none-super W (error_of_superclass W c.args.class.now) c.args.class.now.superclass e)

pub returns-in-Some : goal.returns-in-Some
unfolding fault_of_superclass
returns-in-Some c =
    let W = c.args.index.now in
    let e : and_then (id_of W) c.args.class.now.superclass ≡ Some c.in-Some.above = sym (c.in-Some.ensures.value ∙ superclass_is W (name_at W c.args.id) c.args.class.now c.requires.at) in
    c.superclass_error.ensures ∙ sym (one-super W (error_of_superclass W c.args.class.now) c.args.class.now.superclass c.in-Some.above c.facts.result.now e c.facts.ensures)
