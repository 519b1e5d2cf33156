use Rattle.std.proofs.Common.{◌∙◌, ◌+◌, arith, true, false, ap, length, take, map}
use Rattle.jc_facts.specs.declared.warning.Warning.{Warning}
use Rattle.jc_promises.specs.rule.Warnings.{WarningStands, is_base, warning_order}
use Rattle.jc_facts.proofs.Exactly.{OfNames}
use Rattle.jc_sides.specs.Limit.{over}
use Rattle.jc_sides.specs.SharedOf.{name_of}
use Rattle.jc_sides.proofs.ByItems.{start, more, whole, covers_it}
use Rattle.jc_select.specs.steps.Warned.{warned}
use Rattle.jc_select.proofs.KindsWarned.{is_rule}
use Rattle.jc_sides.proofs.Limits.{over_none, past_of, told}
use Rattle.jc_select.proofs.warnings.of_bases.Goals as goal

pub loop-class-init : goal.loop-class-init
loop-class-init c = (
  start warning_order (λ (w : Warning). w.«class») warned (λ s w. WarningStands s.old s.new w) (λ s x. is_base s.old s.new x) is_rule c.args.sides.now c.args.bases.now c.requires.bases c.new-warnings.result.items c.new-warnings.ensures.items,
  ap (λ xs. over (length xs) c.args.most) c.new-warnings.ensures.items ∙ over_none c.args.most,
)

pub of_base-requires-clause-covered : goal.of_base-requires-clause-covered
of_base-requires-clause-covered c =
    covers_it warning_order (λ (w : Warning). w.«class») warned (λ s w. WarningStands s.old s.new w) (λ s x. is_base s.old s.new x) is_rule c.args.sides.now
    c.args.bases.now c.requires.bases c.loop-class.class-index c.class-item.result c.loop-class-test.true c.class-item.is

pub of_base-requires-clause-sides : goal.of_base-requires-clause-sides
of_base-requires-clause-sides c = c.requires.bases.sides

pub loop-class-preserved : goal.loop-class-preserved
loop-class-preserved c = (
  more warning_order (λ (w : Warning). w.«class») warned (λ s w. WarningStands s.old s.new w) (λ s x. is_base s.old s.new x) is_rule c.args.sides.now c.args.bases.now c.requires.bases c.loop-class.class-index c.class-item.result
      c.loop-class.warnings.items c.in_ok-of_base.field-0.items c.append.new.self.items c.loop-class-test.true c.class-item.is c.loop-class.invariant.0 c.in_ok-of_base.ensures c.in_ok-append.ensures.items,
  told c.args.most c.append.new.self.items c.len.result c.is_over.result false (omega (arith, c.len.ensures, c.append.new.self.ok.0)) c.is_over.ensures c.if-is_over.false,
)

pub returns-then-is_over : goal.returns-then-is_over
returns-then-is_over c =
    past_of warning_order (OfNames (λ (w : Warning). w.«class») (WarningStands c.args.sides.now.old c.args.sides.now.new) (take (c.loop-class.class-index + 1) (map name_of c.args.bases.now))) (WarningStands c.args.sides.now.old c.args.sides.now.new) c.args.most c.append.new.self.items (λ f p. p.1)
    (more warning_order (λ (w : Warning). w.«class») warned (λ s w. WarningStands s.old s.new w) (λ s x. is_base s.old s.new x) is_rule c.args.sides.now c.args.bases.now c.requires.bases c.loop-class.class-index c.class-item.result
    c.loop-class.warnings.items c.in_ok-of_base.field-0.items c.append.new.self.items c.loop-class-test.true c.class-item.is c.loop-class.invariant.0 c.in_ok-of_base.ensures c.in_ok-append.ensures.items)
    (told c.args.most c.append.new.self.items c.len.result c.is_over.result true (omega (arith, c.len.ensures, c.append.new.self.ok.0)) c.is_over.ensures c.if-is_over.true)

pub returns : goal.returns
returns c = (
  whole warning_order (λ (w : Warning). w.«class») warned (λ s w. WarningStands s.old s.new w) (λ s x. is_base s.old s.new x) is_rule c.args.sides.now c.args.bases.now c.requires.bases c.loop-class.class-index c.loop-class.warnings.items
      c.loop-class-test.false c.loop-class.invariant.0,
  c.loop-class.invariant.1,
)
