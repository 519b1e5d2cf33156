use Rattle.std.proofs.Common.{◌≡◌, ◌∷◌, [], ◌++◌, ap, ◌∙◌}
use Rattle.jc_facts.specs.Names.{Bytes}
use Rattle.jc_attr.proofs.Firsts.{firsts_more, firsts_again, last_place, last_name, on_ok_map}
use Rattle.jc_attr.proofs.class_names.add.Goals as goal

pub returns-in-Some-clause-kept : goal.returns-in-Some-clause-kept
returns-in-Some-clause-kept c =
    let there = rw c.in-Some.is at (c.first_of.ensures c.args.pool.now c.args.names.now (rw c.as_slice.ensures.value c.requires.firsts)) in
    on_ok_map c.push_again.result (λ e. firsts_again c.args.pool.now c.args.names.now c.push_again.new.self c.args.name.now c.args.index c.in-Some.place c.args.firsts.now.items there.1 c.requires.named e c.requires.firsts) c.push_again.ensures

pub returns-clause-kept : goal.returns-clause-kept
returns-clause-kept c =
    let added : c.push-2.new.self ≡ c.args.names.now ++ c.args.name.now ∷ [] = c.in_ok-push.ensures ∙ ap (λ (x : Bytes). c.args.names.now ++ x ∷ []) c.in_ok-name-2.ensures in
    c.keep.ensures c.args.pool.now c.push-2.new.self (firsts_more c.args.pool.now c.args.names.now c.push-2.new.self c.args.name.now c.args.firsts.now.items added c.requires.firsts)
    (rw c.as_slice-place.ensures (last_place c.args.names.now c.push-2.new.self c.args.name.now added))
    (rw c.as_slice-place.ensures (last_name c.args.pool.now c.args.names.now c.push-2.new.self c.args.name.now c.args.index added c.requires.named))
