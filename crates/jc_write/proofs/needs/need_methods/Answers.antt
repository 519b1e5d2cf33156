use Rattle.std.proofs.Common.{◌∙◌}
use Rattle.jc_write.proofs.Needed.{method_next}
use Rattle.jc_write.proofs.needs.need_methods.Goals as goal

pub loop-method-preserved : goal.loop-method-preserved
loop-method-preserved c =
    method_next c.args.methods.now c.loop-method.method-index c.method-item.result c.loop-method-test.true c.method-item.is _ _ c.loop-method.others.now _ c.in_ok-need_method.ensures c.other_bodies-others.ensures ∙ c.loop-method.invariant
