use Rattle.std.proofs.Common.{◌≡◌, ◌<◌, ◌≤◌, List, length, get_or, ap, ◌∙◌, ◌&&◌, arith}
use Rattle.jc_facts.specs.declared.class_facts.Member.{Member}
use Rattle.jc_facts.specs.Names.{is_key}
use Rattle.jc_desc.specs.Names.{is_init_name}
use Rattle.jc_sides.specs.steps.KeySets.{has_member}
use Rattle.jc_sides.proofs.KeySets.{adds_none, put_member, adds_all, adds_each}
use Rattle.jc_sides.proofs.members.init_keys.Goals as goal

pub loop-method-init : goal.loop-method-init
loop-method-init c = adds_none c.new-keys.result.items

pub loop-method-preserved : goal.loop-method-preserved
loop-method-preserved c =
    let here : c.as_slice-method-items.result.now ≡ c.args.class.now.methods = c.as_slice-method-items.ensures in
    let within : c.loop-method.method-index < length c.args.class.now.methods = omega (arith, ap (λ (xs : List Member). length xs) here) in
    put_member (λ m. is_init_name m.name) c.args.class.now.methods c.loop-method.method-index c.method-item.result c.is_init-wanted.result _ _ _ within
    (c.method-item.is ∙ ap (λ (xs : List Member). get_or xs c.loop-method.method-index c.method-item.result) here) (c.is_init-wanted.ensures ∙ ap is_init_name c.as_bytes.ensures)
    c.loop-method.invariant c.in_ok-push_if.ensures

pub returns : goal.returns
returns c =
    let here : c.as_slice-method-items.result.now ≡ c.args.class.now.methods = c.as_slice-method-items.ensures in
    let end : length c.args.class.now.methods ≤ c.loop-method.method-index = omega (arith, ap (λ (xs : List Member). length xs) here) in
    adds_each (has_member (λ m. is_init_name m.name) c.args.class.now.methods) c.new-keys.result.items c.loop-method.keys.items c.new-keys.ensures.items
    (adds_all (λ q m. is_init_name m.name && is_key q m) c.args.class.now.methods c.loop-method.method-index c.new-keys.result.items c.loop-method.keys.items end c.loop-method.invariant)
