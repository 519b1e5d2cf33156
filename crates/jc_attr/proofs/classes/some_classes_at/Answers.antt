use Rattle.std.proofs.Common.{◌-◌, ◌+◌, arith, sym}
use Rattle.jc_facts.specs.file.Attributes.{list_at, class_from}
use Rattle.jc_attr.proofs.Lists.{list_step, list_fault, list_done}
use Rattle.jc_attr.proofs.classes.some_classes_at.Goals as goal

pub returns-in-Err : goal.returns-in-Err
returns-in-Err c =
    list_fault (class_from c.args.pool.now) c.loop.names (c.args.count - c.loop.counter) c.loop.rest.now c.in-Err.fault (list_at (class_from c.args.pool.now) c.args.count c.args.bytes.now) (omega arith) (sym c.in-Err.ensures.value) c.loop.invariant.1

pub loop-preserved : goal.loop-preserved
loop-preserved c = (
  c.in_ok-add.ensures.kept,
  rw c.in_ok-add.ensures.added
      (list_step (class_from c.args.pool.now) c.loop.names (c.args.count - c.loop.counter) (c.args.count - (c.loop.counter + 1)) c.loop.rest.now c.in-Ok.class.1.now c.in-Ok.class.2.now (list_at (class_from c.args.pool.now) c.args.count c.args.bytes.now) (omega arith)
      (sym c.in-Ok.ensures.value) c.loop.invariant.1),
)

pub returns : goal.returns
returns c = list_done (class_from c.args.pool.now) c.loop.names (c.args.count - c.loop.counter) c.loop.rest.now (list_at (class_from c.args.pool.now) c.args.count c.args.bytes.now) (omega arith) c.loop.invariant.1
