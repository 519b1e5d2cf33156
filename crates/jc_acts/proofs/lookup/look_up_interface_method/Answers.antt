use Rattle.std.proofs.Common.{◌≡◌, true, false, sym, ◌∙◌, ap, subst}
use Rattle.jc_facts.specs.declared.class_facts.ClassFacts.{ClassFacts}
use Rattle.jc_facts.specs.Flags.{interface_flag}
use Rattle.jc_facts.specs.Options.{some_and}
use Rattle.jc_facts.specs.world.Lookup.{interface_choices}
use Rattle.jc_facts.specs.world.Assignment.{is_interface_of}
use Rattle.jc_index.specs.Ids.{name_at}
use Rattle.jc_index.specs.Lookups.{IsChoice}
use Rattle.jc_index.proofs.Sides.{side_valid}
use Rattle.jc_acts.proofs.LookedUp.{interface_member, interface_fault, interface_kind}
use Rattle.jc_acts.proofs.lookup.look_up_interface_method.Goals as goal

pub returns-then-not-is_interface-clause-found : goal.returns-then-not-is_interface-clause-found
returns-then-not-is_interface-clause-found c =
    let i : is_interface_of c.args.table.now (name_at c.args.table.now c.args.class) ≡ false = ap (some_and (λ (d : ClassFacts). interface_flag d.flags)) (sym c.facts.ensures) ∙ sym c.is_interface.ensures ∙ c.if-not-is_interface.true in
    interface_kind c.args.table.now (side_valid c.args.table.now c.requires.side) (name_at c.args.table.now c.args.class) c.args.key.now c.requires.loads c.requires.key i

pub returns-in-Some-clause-found : goal.returns-in-Some-clause-found
returns-in-Some-clause-found c =
    let i : is_interface_of c.args.table.now (name_at c.args.table.now c.args.class) ≡ true = ap (some_and (λ (d : ClassFacts). interface_flag d.flags)) (sym c.facts.ensures) ∙ sym c.is_interface.ensures ∙ c.if-not-is_interface.false in
    interface_member c.args.table.now (side_valid c.args.table.now c.requires.side) (name_at c.args.table.now c.args.class) c.args.key.now c.requires.loads c.requires.key i c.in-Some.found
    (subst (λ o. IsChoice c.args.table.now o (interface_choices c.args.table.now (name_at c.args.table.now c.args.class) c.args.key.now)) c.in-Some.is c.find_interface_method_by_number.ensures)

pub returns-in-None-clause-found : goal.returns-in-None-clause-found
returns-in-None-clause-found c =
    let i : is_interface_of c.args.table.now (name_at c.args.table.now c.args.class) ≡ true = ap (some_and (λ (d : ClassFacts). interface_flag d.flags)) (sym c.facts.ensures) ∙ sym c.is_interface.ensures ∙ c.if-not-is_interface.false in
    interface_fault c.args.table.now (side_valid c.args.table.now c.requires.side) (name_at c.args.table.now c.args.class) c.args.key.now c.requires.loads c.requires.key i
    (subst (λ o. IsChoice c.args.table.now o (interface_choices c.args.table.now (name_at c.args.table.now c.args.class) c.args.key.now)) c.in-None.is c.find_interface_method_by_number.ensures)
