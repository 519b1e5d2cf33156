use Rattle.std.proofs.Common.{sym, subst, ap, ◌∙◌}
use Rattle.std.specs.List.{filter_map}
use Rattle.jc_facts.specs.Exactly.{HasExactly}
use Rattle.jc_sides.specs.Rules.{IsOf}
use Rattle.jc_sides.specs.SharedOf.{name_of}
use Rattle.jc_sides.proofs.ByItems.{of_class}
use Rattle.jc_sides.proofs.MadeKeys.{each_in_order}
use Rattle.jc_sides.proofs.item_rule.of_class.Goals as goal

pub returns : goal.returns
returns g c =
    subst (HasExactly g.R.Item.FromBroken.order (IsOf g.R.Item.FromBroken.class_of (g.R.Item.FromBroken.stands g.R.ItemRule.rule c.args.sides.now) (name_of c.args.class.now))) (sym (c.in_ok-items.ensures ∙ ap (filter_map (g.R.Item.FromBroken.makes g.R.ItemRule.rule c.args.sides.now (name_of c.args.class.now))) c.as_slice.ensures.value))
    (of_class g.R.Item.FromBroken.order g.R.Item.FromBroken.class_of (g.R.Item.FromBroken.makes g.R.ItemRule.rule) (g.R.Item.FromBroken.stands g.R.ItemRule.rule) g.R.ItemRule.covers c.requires.rule c.args.sides.now (name_of c.args.class.now) c.in_ok-sorted.sorted.items
    (each_in_order (g.R.Item.FromBroken.makes g.R.ItemRule.rule c.args.sides.now (name_of c.args.class.now)) c.in_ok-made.made.items c.in_ok-sorted.sorted.items c.in_ok-made.ensures c.in_ok-sorted.ensures))

pub made_of-requires-clause-kept : goal.made_of-requires-clause-kept
made_of-requires-clause-kept g c = c.requires.rule.kept c.args.sides.now (name_of c.args.class.now) c.requires.covered

pub made_of-requires-clause-passing : goal.made_of-requires-clause-passing
made_of-requires-clause-passing g c = c.members.ensures c.args.sides.now (name_of c.args.class.now) c.requires.covered
