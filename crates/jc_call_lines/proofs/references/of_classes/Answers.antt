use Rattle.std.proofs.Common.{◌∙◌, ◌+◌, arith, true, false, ap, length, take, map}
use Rattle.jc_calls.specs.Lines.{line_order}
use Rattle.jc_call_kinds.specs.declared.call_line.CallLine.{CallLine}
use Rattle.jc_promises.specs.rule.Bases.{is_steady}
use Rattle.jc_facts.proofs.Exactly.{OfNames}
use Rattle.jc_sides.specs.Limit.{over}
use Rattle.jc_sides.specs.SharedOf.{name_of}
use Rattle.jc_sides.proofs.ByItems.{start, more, whole, covers_it}
use Rattle.jc_call_lines.specs.steps.LostLines.{lost_line}
use Rattle.jc_call_lines.proofs.LostLines.{OfReference, is_rule}
use Rattle.jc_sides.proofs.Limits.{over_none, past_of, told}
use Rattle.jc_call_lines.proofs.references.of_classes.Goals as goal

pub loop-class-init : goal.loop-class-init
loop-class-init c = (
  start line_order (λ (l : CallLine). l.«class») lost_line OfReference (λ s x. is_steady s.old s.new x) is_rule c.args.sides.now c.args.classes.now c.requires.classes c.new-lines.result.items c.new-lines.ensures.items,
  ap (λ xs. over (length xs) c.args.most) c.new-lines.ensures.items ∙ over_none c.args.most,
)

pub of_class-requires-clause-steady : goal.of_class-requires-clause-steady
of_class-requires-clause-steady c =
    covers_it line_order (λ (l : CallLine). l.«class») lost_line OfReference (λ s x. is_steady s.old s.new x) is_rule c.args.sides.now
    c.args.classes.now c.requires.classes c.loop-class.class-index c.class-item.result c.loop-class-test.true c.class-item.is

pub loop-class-preserved : goal.loop-class-preserved
loop-class-preserved c = (
  more line_order (λ (l : CallLine). l.«class») lost_line OfReference (λ s x. is_steady s.old s.new x) is_rule c.args.sides.now c.args.classes.now c.requires.classes c.loop-class.class-index c.class-item.result
      c.loop-class.lines.items c.in_ok-of_class.field-0.items c.append.new.self.items c.loop-class-test.true c.class-item.is c.loop-class.invariant.0 c.in_ok-of_class.ensures c.in_ok-append.ensures.items,
  told c.args.most c.append.new.self.items c.len.result c.is_over.result false (omega (arith, c.len.ensures, c.append.new.self.ok.0)) c.is_over.ensures c.if-is_over.false,
)

pub returns-then-is_over : goal.returns-then-is_over
returns-then-is_over c =
    past_of line_order (OfNames (λ (l : CallLine). l.«class») (OfReference c.args.sides.now) (take (c.loop-class.class-index + 1) (map name_of c.args.classes.now))) (OfReference c.args.sides.now) c.args.most c.append.new.self.items (λ f p. p.1)
    (more line_order (λ (l : CallLine). l.«class») lost_line OfReference (λ s x. is_steady s.old s.new x) is_rule c.args.sides.now c.args.classes.now c.requires.classes c.loop-class.class-index c.class-item.result
    c.loop-class.lines.items c.in_ok-of_class.field-0.items c.append.new.self.items c.loop-class-test.true c.class-item.is c.loop-class.invariant.0 c.in_ok-of_class.ensures c.in_ok-append.ensures.items)
    (told c.args.most c.append.new.self.items c.len.result c.is_over.result true (omega (arith, c.len.ensures, c.append.new.self.ok.0)) c.is_over.ensures c.if-is_over.true)

pub returns : goal.returns
returns c = (
  whole line_order (λ (l : CallLine). l.«class») lost_line OfReference (λ s x. is_steady s.old s.new x) is_rule c.args.sides.now c.args.classes.now c.requires.classes c.loop-class.class-index c.loop-class.lines.items
      c.loop-class-test.false c.loop-class.invariant.0,
  c.loop-class.invariant.1,
)
