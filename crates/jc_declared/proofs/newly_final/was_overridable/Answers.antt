use Rattle.std.proofs.Common.{sym, subst, ◌∙◌}
use Rattle.jc_facts.specs.world.Lookup.{method_choices}
use Rattle.jc_index.specs.Ids.{name_at}
use Rattle.jc_index.specs.Lookups.{IsChoice}
use Rattle.jc_declared.proofs.NewlyFinal.{choice_passes, choice_none}
use Rattle.jc_declared.proofs.newly_final.was_overridable.Goals as goal

pub returns-in_default : goal.returns-in_default
returns-in_default c =
    let W = c.args.table.now in
    let x = name_at c.args.table.now c.args.class in
    sym (choice_none W x c.args.key.now (subst (λ o. IsChoice W o (method_choices W x c.args.key.now)) c.in_default.is c.find_method_by_number.ensures))

pub returns : goal.returns
returns c =
    let W = c.args.table.now in
    let x = name_at c.args.table.now c.args.class in
    c.is_open_instance.ensures ∙ choice_passes W c.requires.side x c.args.key.now c.requires.loads c.requires.key c.in-Some.found (subst (λ o. IsChoice W o (method_choices W x c.args.key.now)) c.in-Some.is c.find_method_by_number.ensures)
