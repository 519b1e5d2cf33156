use Rattle.std.proofs.Common.{option_map, sym, ◌∙◌, ap}
use Rattle.std.proofs.lemmas.Result.{IfOk-weaker}
use Rattle.jc_rows.specs.Keys.{numbered_keys}
use Rattle.jc_sides.specs.SharedOf.{name_of}
use Rattle.jc_sides.proofs.MadeKeys.{at_some, at_none}
use Rattle.jc_sides.proofs.TranslatedKeys.{is_past}
use Rattle.jc_sides.proofs.item_rule.if_made_at.Goals as goal

pub returns-in_default : goal.returns-in_default
returns-in_default g c =
    at_none (g.R.Item.FromBroken.makes g.R.ItemRule.rule c.args.sides.now (name_of c.args.class.now)) c.args.table.now c.args.item.now.key
    (is_past c.args.sides.now (numbered_keys c.args.table.now) c.args.numbers.now c.args.item.now.key c.requires.numbers (sym c.numbers_at.ensures ∙ ap (option_map (λ p. p.now)) c.in_default.is))

pub returns-in_default-key_at : goal.returns-in_default-key_at
returns-in_default-key_at g c = at_none (g.R.Item.FromBroken.makes g.R.ItemRule.rule c.args.sides.now (name_of c.args.class.now)) c.args.table.now c.args.item.now.key (sym c.key_at.ensures ∙ ap (option_map (λ k. k.now)) c.in_default-key_at.is)

pub if_made-requires-clause-numbers : goal.if_made-requires-clause-numbers
if_made-requires-clause-numbers g c =
    c.requires.numbers.right c.args.item.now.key c.in-Some-key_at.key.now c.in-Some.numbers.now (sym c.key_at.ensures ∙ ap (option_map (λ k. k.now)) c.in-Some-key_at.is) (sym c.numbers_at.ensures ∙ ap (option_map (λ p. p.now)) c.in-Some.is)

pub returns : goal.returns
returns g c =
    IfOk-weaker c.if_made.result _ _ (λ made h. at_some (g.R.Item.FromBroken.makes g.R.ItemRule.rule c.args.sides.now (name_of c.args.class.now)) c.args.table.now c.args.item.now.key c.in-Some-key_at.key.now made (sym c.key_at.ensures ∙ ap (option_map (λ k. k.now)) c.in-Some-key_at.is) h) c.if_made.ensures
