use Rattle.std.proofs.Common.{◌≡◌, true, false, sym, ◌∙◌, ap, subst}
use Rattle.jc_facts.specs.declared.class_facts.ClassFacts.{ClassFacts}
use Rattle.jc_facts.specs.Flags.{interface_flag}
use Rattle.jc_facts.specs.Options.{some_and}
use Rattle.jc_facts.specs.world.Lookup.{method_choices}
use Rattle.jc_facts.specs.world.Assignment.{is_interface_of}
use Rattle.jc_index.specs.Ids.{name_at}
use Rattle.jc_index.specs.Lookups.{IsChoice}
use Rattle.jc_index.proofs.Sides.{classes_valid}
use Rattle.jc_link.proofs.LookedUp.{class_member, class_none, class_kind}
use Rattle.jc_link.proofs.lookup.method.Goals as goal

pub returns-then-is_interface : goal.returns-then-is_interface
returns-then-is_interface c = λ act e.
    let i : is_interface_of c.args.table.now (name_at c.args.table.now c.args.class) ≡ true = ap (some_and (λ (d : ClassFacts). interface_flag d.flags)) (sym c.facts.ensures) ∙ sym c.is_interface.ensures ∙ c.if-is_interface.true in
    class_kind c.args.table.now act (name_at c.args.table.now c.args.class) c.args.key.now e i

pub returns-in-Some : goal.returns-in-Some
returns-in-Some c = λ act e.
    let i : is_interface_of c.args.table.now (name_at c.args.table.now c.args.class) ≡ false = ap (some_and (λ (d : ClassFacts). interface_flag d.flags)) (sym c.facts.ensures) ∙ sym c.is_interface.ensures ∙ c.if-is_interface.false in
    class_member c.args.table.now act (name_at c.args.table.now c.args.class) c.args.key.now (classes_valid c.args.table.now c.requires.side) c.requires.loads c.requires.key e i c.in-Some.found
    (subst (λ o. IsChoice c.args.table.now o (method_choices c.args.table.now (name_at c.args.table.now c.args.class) c.args.key.now)) c.in-Some.is c.find_method.ensures)

pub returns-in-None : goal.returns-in-None
returns-in-None c = λ act e.
    let i : is_interface_of c.args.table.now (name_at c.args.table.now c.args.class) ≡ false = ap (some_and (λ (d : ClassFacts). interface_flag d.flags)) (sym c.facts.ensures) ∙ sym c.is_interface.ensures ∙ c.if-is_interface.false in
    class_none c.args.table.now act (name_at c.args.table.now c.args.class) c.args.key.now e i
    (subst (λ o. IsChoice c.args.table.now o (method_choices c.args.table.now (name_at c.args.table.now c.args.class) c.args.key.now)) c.in-None.is c.find_method.ensures)
