use Rattle.std.proofs.Common.{◌-◌, ◌+◌, None, arith, sym}
use Rattle.std.specs.Option.{option_map}
use Rattle.jc_facts.specs.file.ClassSteps.{attributes_at}
use Rattle.jc_facts.specs.code.ClientItems as client
use Rattle.jc_attr.specs.Views.{attribute_view}
use Rattle.jc_attr.proofs.Taking.{attributes_step}
use Rattle.jc_code.proofs.bootstrap_rows.some_body.Goals as goal

pub loop-preserved : goal.loop-preserved
loop-preserved c =
    attributes_step (client.take_boots c.args.pool.now) c.args.pool.now (option_map (λ b. b.now) c.loop.found) (c.args.count - c.loop.counter) (c.args.count - (c.loop.counter + 1)) c.loop.rest.now (attribute_view c.in-Ok.read.0) (option_map (λ b. b.now) c.taken-found.result) c.in-Ok.read.1.now
    (attributes_at (client.take_boots c.args.pool.now) c.args.pool.now c.args.count None c.args.bytes.now) (omega arith) (sym c.in-Ok.ensures) (sym c.taken-found.ensures) c.loop.invariant
