use Rattle.std.proofs.Common.{◌≡◌, List, sym, subst, ap, ◌∙◌}
use Rattle.std.specs.List.{filter_map}
use Rattle.std.proofs.lemmas.Result.{IfOk-weaker}
use Rattle.jc_facts.specs.declared.key.Key.{Key}
use Rattle.jc_table.specs.RowKeys.{keys_of_row}
use Rattle.jc_sides.specs.Members.{is_member}
use Rattle.jc_sides.specs.Numbering.{AreOfKeys}
use Rattle.jc_sides.specs.SharedOf.{name_of}
use Rattle.jc_sides.specs.SidesOf.{SidesOf}
use Rattle.jc_sides.specs.declared.key_numbers.KeyNumbers.{KeyNumbers}
use Rattle.jc_sides.proofs.MadeKeys.{made_key, each_made}
use Rattle.jc_sides.proofs.MemberKeys.{each_key}
use Rattle.jc_sides.proofs.item_rule.made_of.Goals as goal

pub made_in_row-requires-clause-numbers : goal.made_in_row-requires-clause-numbers
made_in_row-requires-clause-numbers g c =
    subst (λ (s : SidesOf). AreOfKeys c.args.sides.now s.old c.as_slice-numbers.result.now) (sym c.sides.view_is)
    (subst (λ (ps : List KeyNumbers). AreOfKeys c.args.sides.now c.args.sides.now.old ps) (sym c.as_slice-numbers.ensures.value) c.requires.translation.of_old)

pub made_in_row-requires-in-Some-new_row-clause-numbers : goal.made_in_row-requires-in-Some-new_row-clause-numbers
made_in_row-requires-in-Some-new_row-clause-numbers g c =
    subst (λ (s : SidesOf). AreOfKeys c.args.sides.now s.new c.as_slice-numbers-in-Some-new_row.result.now) (sym c.sides.view_is)
    (subst (λ (ps : List KeyNumbers). AreOfKeys c.args.sides.now c.args.sides.now.new ps) (sym c.as_slice-numbers-in-Some-new_row.ensures.value) c.requires.translation.of_new)

pub returns-in-Some : goal.returns-in-Some
returns-in-Some g c =
    IfOk-weaker c.made_in_row.result _ _
    (λ made h. each_made (g.R.Item.FromBroken.makes g.R.ItemRule.rule c.args.sides.now (name_of c.args.class.now)) (keys_of_row c.args.sides.now.old c.in-Some.row.now) made.items
    (each_key (g.R.Item.FromBroken.makes g.R.ItemRule.rule c.args.sides.now (name_of c.args.class.now)) (is_member c.args.members c.args.sides.now (name_of c.args.class.now)) (keys_of_row c.args.sides.now.old c.in-Some.row.now) c.in-Some.ensures c.requires.passing)
    (subst (λ (s : SidesOf). made.items ≡ filter_map (made_key (g.R.Item.FromBroken.makes g.R.ItemRule.rule c.args.sides.now (name_of c.args.class.now))) (keys_of_row s.old c.in-Some.row.now)) c.sides.view_is h))
    c.made_in_row.ensures

pub returns-in-Some-new_row : goal.returns-in-Some-new_row
returns-in-Some-new_row g c =
    IfOk-weaker c.made_in_row-in-Some-new_row.result _ _
    (λ made h. each_made (g.R.Item.FromBroken.makes g.R.ItemRule.rule c.args.sides.now (name_of c.args.class.now)) (keys_of_row c.args.sides.now.new c.in-Some-new_row.row.now) made.items
    (each_key (g.R.Item.FromBroken.makes g.R.ItemRule.rule c.args.sides.now (name_of c.args.class.now)) (is_member c.args.members c.args.sides.now (name_of c.args.class.now)) (keys_of_row c.args.sides.now.new c.in-Some-new_row.row.now) c.in-Some-new_row.ensures c.requires.passing)
    (subst (λ (s : SidesOf). made.items ≡ filter_map (made_key (g.R.Item.FromBroken.makes g.R.ItemRule.rule c.args.sides.now (name_of c.args.class.now))) (keys_of_row s.new c.in-Some-new_row.row.now)) c.sides.view_is h))
    c.made_in_row-in-Some-new_row.ensures

pub returns : goal.returns
returns g c =
    IfOk-weaker c.made_of_keys.result _ _
    (λ made h. each_made (g.R.Item.FromBroken.makes g.R.ItemRule.rule c.args.sides.now (name_of c.args.class.now)) c.in_ok-keys.keys.items made.items
    (each_key (g.R.Item.FromBroken.makes g.R.ItemRule.rule c.args.sides.now (name_of c.args.class.now)) (is_member c.args.members c.args.sides.now (name_of c.args.class.now)) c.in_ok-keys.keys.items c.in_ok-keys.ensures c.requires.passing)
    (h ∙ ap (λ (ks : List Key). filter_map (made_key (g.R.Item.FromBroken.makes g.R.ItemRule.rule c.args.sides.now (name_of c.args.class.now))) ks) c.as_slice.ensures.value))
    c.made_of_keys.ensures
