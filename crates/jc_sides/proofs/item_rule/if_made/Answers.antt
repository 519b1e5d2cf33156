use Rattle.std.proofs.Common.{is_some, sym, ap, ◌∙◌}
use Rattle.jc_sides.specs.SharedOf.{name_of}
use Rattle.jc_sides.proofs.MadeKeys.{made_then, made_else}
use Rattle.jc_sides.proofs.item_rule.if_made.Goals as goal

pub returns-in_ok-copy : goal.returns-in_ok-copy
returns-in_ok-copy g c =
    let x = name_of c.args.class.now in
    made_then (g.R.Item.FromBroken.makes g.R.ItemRule.rule c.args.sides.now x) c.args.key.now c.in_ok-copy.field-0 c.in_ok-copy.ensures
    (ap is_some (sym c.on_key-broken.ensures) ∙ g.met.R.Item.FromBroken.made_where g.R.ItemRule.rule x c.args.key.now c.on_key-broken.result ∙ sym c.is_some.ensures ∙ c.if-is_some.true)

pub returns-else-is_some : goal.returns-else-is_some
returns-else-is_some g c =
    let x = name_of c.args.class.now in
    made_else (g.R.Item.FromBroken.makes g.R.ItemRule.rule c.args.sides.now x) c.args.key.now
    (ap is_some (sym c.on_key-broken.ensures) ∙ g.met.R.Item.FromBroken.made_where g.R.ItemRule.rule x c.args.key.now c.on_key-broken.result ∙ sym c.is_some.ensures ∙ c.if-is_some.false)
