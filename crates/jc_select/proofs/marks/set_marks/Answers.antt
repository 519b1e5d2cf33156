use Rattle.std.proofs.Common.{◌==◌}
use Rattle.jc_select.proofs.SetMarks.{set_start}
use Rattle.jc_select.proofs.marks.set_marks.Goals as goal

pub loop-id-init : goal.loop-id-init
loop-id-init c = set_start (λ i n. i == n) c.args.ids.now c.args.to c.args.marks.now
