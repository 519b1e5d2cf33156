use Rattle.std.proofs.Common.{◌<◌, ◌≤◌, sym, ap, subst, ◌∙◌, arith}
use Rattle.jc_facts.specs.world.World.{size}
use Rattle.jc_sides.specs.SidesOf.{SidesOf, AreSides}
use Rattle.jc_declared.proofs.NoteConstant.{start, one_more, all_classes}
use Rattle.jc_declared.proofs.note_constant.note_constant.Goals as goal

pub loop-n-init : goal.loop-n-init
loop-n-init c = start c.args.sides.now (subst AreSides c.sides.view_is c.sides.invariant.sides) c.new-notes.result.items c.new-notes.ensures.items

pub loop-n-preserved : goal.loop-n-preserved
loop-n-preserved c =
    let l : c.loop-n.n < size c.sides.inside.old.now = omega (arith, c.count-n-end.ensures.count) in
    one_more c.args.sides.now (subst AreSides c.sides.view_is c.sides.invariant.sides) c.sides.inside.old.now (ap (λ (s : SidesOf). s.old) c.sides.view_is) c.loop-n.n c.unwrap-id.result c.loop-n.notes.items
    c.in_ok-on_class.field-0.items c.append.new.self.items l (sym c.id.ensures.value ∙ c.unwrap-id.ensures) c.loop-n.invariant c.in_ok-on_class.ensures c.in_ok-append.ensures.items

pub returns : goal.returns
returns c =
    let l : size c.sides.inside.old.now ≤ c.loop-n.n = omega (arith, c.count-n-end.ensures.count) in
    all_classes c.args.sides.now (subst AreSides c.sides.view_is c.sides.invariant.sides) c.sides.inside.old.now (ap (λ (s : SidesOf). s.old) c.sides.view_is) c.loop-n.n c.loop-n.notes.items l c.loop-n.invariant
