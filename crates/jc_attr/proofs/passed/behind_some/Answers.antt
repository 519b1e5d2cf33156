use Rattle.std.proofs.Common.{◌-◌, ◌+◌, arith, sym}
use Rattle.jc_facts.specs.file.Attributes.{list_at, behind}
use Rattle.jc_attr.proofs.Lists.{behind_step}
use Rattle.jc_attr.proofs.passed.behind_some.Goals as goal

pub loop-preserved : goal.loop-preserved
loop-preserved g c =
    behind_step (g.P.Passed.read c.args.entry.now) (c.args.count - c.loop.counter) (c.args.count - (c.loop.counter + 1)) c.loop.rest.now c.in-Ok.after.now (behind (list_at (g.P.Passed.read c.args.entry.now) c.args.count c.args.bytes.now)) (omega arith) (sym c.in-Ok.ensures) c.loop.invariant
