use Rattle.std.proofs.Common.{sym, subst, ap, ◌∙◌}
use Rattle.std.specs.List.{filter_map}
use Rattle.jc_calls.specs.Lines.{line_order}
use Rattle.jc_facts.specs.Exactly.{HasExactly}
use Rattle.jc_call_kinds.specs.declared.call_line.CallLine.{CallLine}
use Rattle.jc_promises.specs.rule.Bases.{is_steady}
use Rattle.jc_sides.specs.Rules.{IsOf}
use Rattle.jc_sides.specs.SharedOf.{name_of}
use Rattle.jc_sides.proofs.BaseParts.{steady_parts}
use Rattle.jc_sides.proofs.ByItems.{of_class}
use Rattle.jc_sides.proofs.MadeKeys.{each_in_order}
use Rattle.jc_call_lines.specs.steps.LostLines.{lost_line}
use Rattle.jc_call_lines.proofs.LostLines.{OfReference, is_rule, has_each}
use Rattle.jc_call_lines.proofs.references.of_methods.Goals as goal

pub keys_of-requires-clause-kept : goal.keys_of-requires-clause-kept
keys_of-requires-clause-kept c = (steady_parts c.args.sides.now (name_of c.args.class.now) c.requires.steady).kept

pub returns : goal.returns
returns c =
    let s = c.args.sides.now in
    let x = name_of c.args.class.now in
    subst (HasExactly line_order (IsOf (λ (l : CallLine). l.«class») (OfReference s) x)) (sym (c.in_ok-lines.ensures ∙ ap (filter_map (lost_line s x)) c.as_slice.ensures.value))
    (of_class line_order (λ (l : CallLine). l.«class») lost_line OfReference (λ s x. is_steady s.old s.new x) is_rule s x c.in_ok-sorted.sorted.items
    (each_in_order (lost_line s x) c.in_ok-keys.keys.items c.in_ok-sorted.sorted.items (has_each s c.requires.seats.sides x c.in_ok-keys.keys.items c.in_ok-keys.ensures) c.in_ok-sorted.ensures))
