use Rattle.std.proofs.Common.{◌∙◌}
use Rattle.jc_select.proofs.SetsOf.{without}
use Rattle.jc_select.proofs.dropped.take_common.Goals as goal

pub returns : goal.returns
returns c = λ test of s h.
    without test of c.args.left.now c.take_out.new.left c.args.set.now c.as_slice.result.now (c.as_slice.ensures.value ∙ c.in_ok-ids.ensures) s h (c.take_out.ensures test h)
