use Rattle.std.proofs.Common.{◌≡◌, ◌<◌, ◌-◌, ◌+◌, ap, subst, sym, ◌∙◌, arith}
use Rattle.std.specs.Prelude.{[], IfSome, slice_index_or}
use Rattle.jc_facts.specs.world.World.{size}
use Rattle.jc_sides.specs.SharedOf.{SharedOf, name_of}
use Rattle.jc_sides.specs.SidesOf.{SidesOf, AreSides}
use Rattle.jc_index.proofs.Numbers.{id_of-Some}
use Rattle.jc_index.specs.Ids.{name_at, superclass_of}
use Rattle.jc_select.specs.steps.Asked.{up_of}
use Rattle.jc_select.proofs.ChainKeys.{way_start, way_more}
use Rattle.jc_select.proofs.asked.chain_keys.Goals as goal

pub loop-done-init : goal.loop-done-init
loop-done-init c =
    let s : SidesOf = c.args.sides.now in
    let old_size : size c.sides.inside.old.now ≡ size s.old = ap (λ (s : SidesOf). size s.old) c.sides.view_is in
    let new_size : size c.sides.inside.new.now ≡ size s.new = ap (λ (s : SidesOf). size s.new) c.sides.view_is in
    way_start s (name_of c.args.class.now) c.class.inside.old c.class.inside.new (c.count-old_levels.result - 0) (c.count-new_levels.result - 0) c.new-keys.result.items
    (subst (λ (b : SharedOf). b.old < size s.old) (sym c.class.view_is) c.requires.shared.old_below)
    (subst (λ (b : SharedOf). b.new < size s.new) (sym c.class.view_is) c.requires.shared.new_below)
    (subst (λ (b : SharedOf). name_at s.old b.old ≡ name_of c.args.class.now) (sym c.class.view_is) c.requires.shared.old_name)
    (subst (λ (b : SharedOf). name_at s.new b.new ≡ name_of c.args.class.now) (sym c.class.view_is) c.requires.shared.new_name)
    (omega (arith, c.count-old_levels.ensures.count, old_size)) (omega (arith, c.count-new_levels.ensures.count, new_size))

pub loop-done-preserved : goal.loop-done-preserved
loop-done-preserved c =
    let s : SidesOf = c.args.sides.now in
    let are : AreSides s = subst AreSides c.sides.view_is c.sides.invariant.sides in
    let met = c.in-Some.ensures.met in
    let below_new = (id_of-Some s.new (name_at s.old c.in-Some.old) met.1 met.3).0 in
    way_more s are (name_of c.args.class.now) (c.count-old_levels.result - c.loop-done.done) (c.count-new_levels.result - c.loop-done.done) (c.count-old_levels.result - (c.loop-done.done + 1)) (c.count-new_levels.result - (c.loop-done.done + 1))
    c.in-Some.old met.1 c.loop-done.before c.loop-done.now c.superclass-before.result c.up-now.result c.loop-done.keys.items (slice_index_or c.args.changes.now c.in-Some.old []) c.add_changes.new.keys.items
    (omega (arith, c.loop-done-test.true, c.smaller-levels.ensures.first)) (omega (arith, c.loop-done-test.true, c.smaller-levels.ensures.second))
    met.0 met.2 c.in-Some.ensures.of_table below_new
    (subst (λ (s : SidesOf). c.superclass-before.result ≡ superclass_of s.old (name_at s.old c.in-Some.old)) c.sides.view_is c.superclass-before.ensures.value)
    (subst (λ (s : SidesOf). c.up-now.result ≡ up_of s.new c.loop-done.now) c.sides.view_is c.up-now.ensures.value ∙ ap (up_of s.new) met.2)
    (subst (λ (s : SidesOf). IfSome c.superclass-before.result (λ id. id < size s.old)) c.sides.view_is c.superclass-before.ensures.of_table)
    (subst (λ (s : SidesOf). IfSome c.up-now.result (λ id. id < size s.new)) c.sides.view_is c.up-now.ensures.of_table)
    (c.requires.changes.right c.in-Some.old met.1 c.in-Some.ensures.of_table met.3) c.in_ok-add_changes.ensures c.loop-done.invariant
