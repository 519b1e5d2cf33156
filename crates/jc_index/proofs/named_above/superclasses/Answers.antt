use Rattle.std.proofs.Common.{◌≤◌, ◌∙◌, arith}
use Rattle.jc_facts.specs.world.World.{size}
use Rattle.jc_index.specs.Ids.{superclass_of}
use Rattle.jc_index.proofs.Keeps.{column-more, column-all}
use Rattle.jc_index.proofs.named_above.superclasses.Goals as goal

pub loop-n-preserved : goal.loop-n-preserved
loop-n-preserved c =
    c.in_ok-push.ensures.items ∙ column-more c.args.classes.now (superclass_of c.args.classes.now) c.loop-n.supers.items c.loop-n.n c.new.result c.superclass.result (omega (arith, c.count-n-end.ensures.count)) c.new.ensures c.loop-n.invariant c.superclass.ensures

pub returns : goal.returns
returns c =
    let l : size c.args.classes.now ≤ c.loop-n.n = omega (arith, c.count-n-end.ensures.count) in
    column-all c.args.classes.now (superclass_of c.args.classes.now) c.loop-n.supers.items c.loop-n.n l c.loop-n.invariant
