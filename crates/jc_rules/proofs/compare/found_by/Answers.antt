use Rattle.std.proofs.Common.{arith}
use Rattle.jc_promises.specs.rule.Bases.{is_base_class}
use Rattle.jc_promises.specs.rule.Findings.{Stands}
use Rattle.jc_facts.specs.Orders.{finding_order}
use Rattle.jc_rules.proofs.AllRules.{no_finding}
use Rattle.jc_rules.proofs.ByRule.{none_of}
use Rattle.jc_declared.proofs.ConstructorClosed.{is_rule as constructor_closed}
use Rattle.jc_declared.proofs.FieldClosed.{is_rule as field_closed}
use Rattle.jc_declared.proofs.InterfaceMethodLost.{is_rule as interface_method_lost}
use Rattle.jc_declared.proofs.MethodClosed.{is_rule as method_closed}
use Rattle.jc_declared.proofs.MethodMadeFinal.{is_rule as method_made_final}
use Rattle.jc_rules.proofs.compare.found_by.Goals as goal

pub by_items-requires-clause-ready : goal.by_items-requires-clause-ready
by_items-requires-clause-ready c = c.in_ok-bases-in-5.ensures c.args.sides.now (is_base_class c.args.sides.now.old c.args.sides.now.new) (c.bases.ensures c.args.sides.now c.requires.seats)

pub by_items-requires-clause-rule : goal.by_items-requires-clause-rule
by_items-requires-clause-rule c = constructor_closed

pub by_items-requires-in-6-clause-rule : goal.by_items-requires-in-6-clause-rule
by_items-requires-in-6-clause-rule c = method_made_final

pub by_items-requires-in-7-clause-rule : goal.by_items-requires-in-7-clause-rule
by_items-requires-in-7-clause-rule c = field_closed

pub by_items-requires-in-8-clause-rule : goal.by_items-requires-in-8-clause-rule
by_items-requires-in-8-clause-rule c = method_closed

pub by_items-requires-in-9-clause-rule : goal.by_items-requires-in-9-clause-rule
by_items-requires-in-9-clause-rule c = interface_method_lost

pub returns-in_default : goal.returns-in_default
returns-in_default c =
    let s = c.args.sides.now in
    none_of finding_order (λ f. f.rule) (Stands s.old s.new) c.args.most c.args.rule (no_finding s.old s.new c.args.rule (λ a b. omega (arith, a, b))) c.new.result.items c.new.ensures.items
