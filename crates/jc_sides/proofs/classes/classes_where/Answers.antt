use Rattle.std.proofs.Common.{◌<◌, ◌≤◌, sym, ap, subst, ◌∙◌, arith}
use Rattle.jc_facts.specs.world.World.{size}
use Rattle.jc_sides.specs.SidesOf.{SidesOf, AreSides}
use Rattle.jc_sides.proofs.TestedClasses.{start, one_more, all_classes}
use Rattle.jc_sides.proofs.classes.classes_where.Goals as goal

pub loop-n-init : goal.loop-n-init
loop-n-init g c = start (g.T.ClassTest.test c.args.sides.now) c.args.sides.now c.new-classes.result.items c.new-classes.ensures.items

pub loop-n-preserved : goal.loop-n-preserved
loop-n-preserved g c =
    let l : c.loop-n.n < size c.sides.inside.old.now = omega (arith, c.count-n-end.ensures.count) in
    one_more (g.T.ClassTest.test c.args.sides.now) c.args.sides.now c.sides.inside.old.now (ap (λ (s : SidesOf). s.old) c.sides.view_is) c.loop-n.n c.unwrap-id.result c.loop-n.classes.items c.push_where.new.classes.items l
    (sym c.id.ensures.value ∙ c.unwrap-id.ensures) c.loop-n.invariant c.in_ok-push_where.ensures

pub returns : goal.returns
returns g c =
    let l : size c.sides.inside.old.now ≤ c.loop-n.n = omega (arith, c.count-n-end.ensures.count) in
    all_classes (g.T.ClassTest.test c.args.sides.now) c.args.sides.now (subst AreSides c.sides.view_is c.sides.invariant.sides) c.sides.inside.old.now (ap (λ (s : SidesOf). s.old) c.sides.view_is) c.loop-n.n c.loop-n.classes.items l c.loop-n.invariant
