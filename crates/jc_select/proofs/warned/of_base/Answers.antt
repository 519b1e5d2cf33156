use Rattle.std.proofs.Common.{sym, subst, ap, ◌∙◌}
use Rattle.std.specs.List.{filter_map}
use Rattle.jc_facts.specs.declared.warning.Warning.{Warning}
use Rattle.jc_facts.specs.Exactly.{HasExactly}
use Rattle.jc_promises.specs.rule.Warnings.{WarningStands, is_base, warning_order}
use Rattle.jc_sides.specs.Rules.{IsOf}
use Rattle.jc_sides.specs.SharedOf.{name_of}
use Rattle.jc_sides.proofs.ByItems.{of_class}
use Rattle.jc_sides.proofs.MadeKeys.{each_in_order}
use Rattle.jc_select.specs.steps.Warned.{warned}
use Rattle.jc_select.proofs.KindsWarned.{is_rule}
use Rattle.jc_select.proofs.warned.of_base.Goals as goal

pub returns : goal.returns
returns c =
    let s = c.args.sides.now in
    let x = name_of c.args.class.now in
    subst (HasExactly warning_order (IsOf (λ (w : Warning). w.«class») (WarningStands s.old s.new) x)) (sym (c.in_ok-made.ensures ∙ ap (filter_map (warned s x)) c.as_slice.ensures.value))
    (of_class warning_order (λ (w : Warning). w.«class») warned (λ s w. WarningStands s.old s.new w) (λ s x. is_base s.old s.new x) is_rule s x c.in_ok-sorted.sorted.items
    (each_in_order (warned s x) c.in_ok-asked.asked.items c.in_ok-sorted.sorted.items c.in_ok-asked.ensures c.in_ok-sorted.ensures))
