use Rattle.std.proofs.Common.{◌≡◌, ◌-◌, ◌+◌, suc, None, sym, ◌∙◌, arith}
use Rattle.jc_facts.specs.world.World.{size}
use Rattle.jc_loading.proofs.Overrides.{meets-found, meets-on, meets-out, meets-end}
use Rattle.jc_loading.proofs.overriding.meets_final.Goals as goal

pub returns-in_default : goal.returns-in_default
returns-in_default c =
    let e : c.loop-done.next ≡ None = cc in
    sym (c.loop-done.invariant.1 ∙ meets-out c.args.index.now c.args.key.now c.loop-done.below.items (size c.args.index.now - c.loop-done.done) c.loop-done.next e)

pub returns-then-branch : goal.returns-then-branch
returns-then-branch c =
    let m = size c.args.index.now - c.loop-done.done in
    let q : m ≡ suc (size c.args.index.now - (c.loop-done.done + 1)) = omega (arith, c.count-done-end.ensures.count) in
    sym (c.loop-done.invariant.1 ∙ meets-found c.args.index.now c.args.key.now c.loop-done.below.items m (size c.args.index.now - (c.loop-done.done + 1)) c.in-Some.class c.loop-done.next c.facts.result.now c.in_ok-link_class.field-0 q c.in-Some.is c.facts.ensures c.in_ok-link_class.ensures.0 c.if-branch.true)

pub loop-done-preserved : goal.loop-done-preserved
loop-done-preserved c =
    let W = c.args.index.now in
    let m = size c.args.index.now - c.loop-done.done in
    let q : m ≡ suc (size c.args.index.now - (c.loop-done.done + 1)) = omega (arith, c.count-done-end.ensures.count) in (
      c.superclass-next.ensures.of_table,
      c.loop-done.invariant.1 ∙ meets-on W c.args.key.now c.loop-done.below.items c.link_class.new.below.items m (size c.args.index.now - (c.loop-done.done + 1)) c.in-Some.class c.loop-done.next c.superclass-next.result c.facts.result.now c.in_ok-link_class.field-0 q c.in-Some.is c.facts.ensures c.in_ok-link_class.ensures.0 c.if-branch.false c.in_ok-link_class.ensures.1 c.superclass-next.ensures.value,
    )

pub returns : goal.returns
returns c =
    let z : size c.args.index.now - c.loop-done.done ≡ 0 = omega (arith, c.count-done-end.ensures.count) in
    sym (c.loop-done.invariant.1 ∙ meets-end c.args.index.now c.args.key.now c.loop-done.below.items (size c.args.index.now - c.loop-done.done) c.loop-done.next z)
