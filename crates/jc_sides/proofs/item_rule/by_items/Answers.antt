use Rattle.std.proofs.Common.{◌∙◌, ◌+◌, ℕ, arith, true, false, ap, sym, subst, length, take, map}
use Rattle.jc_facts.specs.Exactly.{HasExactly}
use Rattle.jc_facts.proofs.Exactly.{OfNames}
use Rattle.jc_sides.specs.Limit.{HasMore, over}
use Rattle.jc_sides.specs.SharedOf.{name_of}
use Rattle.jc_sides.proofs.ByItems.{start, more, whole, covers_it}
use Rattle.jc_sides.proofs.Limits.{over_none, past_of, told}
use Rattle.jc_sides.proofs.item_rule.by_items.Goals as goal

pub loop-class-init : goal.loop-class-init
loop-class-init g c = (
  start g.R.Item.FromBroken.order g.R.Item.FromBroken.class_of (g.R.Item.FromBroken.makes g.R.ItemRule.rule) (g.R.Item.FromBroken.stands g.R.ItemRule.rule) g.R.ItemRule.covers c.requires.rule c.args.sides.now c.args.classes.now c.requires.classes c.new-items.result.items c.new-items.ensures.items,
  ap (λ xs. over (length xs) c.args.most) c.new-items.ensures.items ∙ over_none c.args.most,
)

pub of_class-requires-clause-covered : goal.of_class-requires-clause-covered
of_class-requires-clause-covered g c =
    covers_it g.R.Item.FromBroken.order g.R.Item.FromBroken.class_of (g.R.Item.FromBroken.makes g.R.ItemRule.rule) (g.R.Item.FromBroken.stands g.R.ItemRule.rule) g.R.ItemRule.covers c.requires.rule c.args.sides.now
    c.args.classes.now c.requires.classes c.loop-class.class-index c.class-item.result c.loop-class-test.true c.class-item.is

pub loop-class-preserved : goal.loop-class-preserved
loop-class-preserved g c = (
  more g.R.Item.FromBroken.order g.R.Item.FromBroken.class_of (g.R.Item.FromBroken.makes g.R.ItemRule.rule) (g.R.Item.FromBroken.stands g.R.ItemRule.rule) g.R.ItemRule.covers c.requires.rule c.args.sides.now c.args.classes.now c.requires.classes c.loop-class.class-index c.class-item.result
      c.loop-class.items.items c.in_ok-of_class.field-0.items c.append.new.self.items c.loop-class-test.true c.class-item.is c.loop-class.invariant.0 c.in_ok-of_class.ensures c.in_ok-append.ensures.items,
  told c.args.most c.append.new.self.items c.len.result c.is_over.result false (omega (arith, c.len.ensures, c.append.new.self.ok.0)) c.is_over.ensures c.if-is_over.false,
)

pub returns-then-is_over : goal.returns-then-is_over
returns-then-is_over g c =
    let s = c.args.sides.now in
    subst (λ (r : ℕ). HasMore g.R.Item.FromBroken.order (g.R.Item.FromBroken.stands r s) c.args.most) (sym c.requires.number)
    (past_of g.R.Item.FromBroken.order (OfNames g.R.Item.FromBroken.class_of (g.R.Item.FromBroken.stands g.R.ItemRule.rule s) (take (c.loop-class.class-index + 1) (map name_of c.args.classes.now))) (g.R.Item.FromBroken.stands g.R.ItemRule.rule s) c.args.most c.append.new.self.items (λ f p. p.1)
    (more g.R.Item.FromBroken.order g.R.Item.FromBroken.class_of (g.R.Item.FromBroken.makes g.R.ItemRule.rule) (g.R.Item.FromBroken.stands g.R.ItemRule.rule) g.R.ItemRule.covers c.requires.rule s c.args.classes.now c.requires.classes c.loop-class.class-index c.class-item.result
    c.loop-class.items.items c.in_ok-of_class.field-0.items c.append.new.self.items c.loop-class-test.true c.class-item.is c.loop-class.invariant.0 c.in_ok-of_class.ensures c.in_ok-append.ensures.items)
    (told c.args.most c.append.new.self.items c.len.result c.is_over.result true (omega (arith, c.len.ensures, c.append.new.self.ok.0)) c.is_over.ensures c.if-is_over.true))

pub returns : goal.returns
returns g c =
    let s = c.args.sides.now in (
      subst (λ (r : ℕ). HasExactly g.R.Item.FromBroken.order (g.R.Item.FromBroken.stands r s) c.loop-class.items.items) (sym c.requires.number)
          (whole g.R.Item.FromBroken.order g.R.Item.FromBroken.class_of (g.R.Item.FromBroken.makes g.R.ItemRule.rule) (g.R.Item.FromBroken.stands g.R.ItemRule.rule) g.R.ItemRule.covers c.requires.rule s c.args.classes.now c.requires.classes c.loop-class.class-index c.loop-class.items.items
          c.loop-class-test.false c.loop-class.invariant.0),
      c.loop-class.invariant.1,
    )
