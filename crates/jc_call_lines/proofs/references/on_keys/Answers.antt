use Rattle.jc_sides.specs.SharedOf.{name_of}
use Rattle.jc_sides.proofs.ByItems.{keys_more}
use Rattle.jc_call_lines.specs.steps.LostLines.{lost_line}
use Rattle.jc_call_lines.proofs.references.on_keys.Goals as goal

pub loop-key-preserved : goal.loop-key-preserved
loop-key-preserved c =
    keys_more (lost_line c.args.sides.now (name_of c.args.class.now)) c.args.keys.now c.loop-key.key-index c.key-item.result c.in_ok-on_key.field-0 c.loop-key.lines.items c.push_some.new.items.items c.loop-key-test.true c.key-item.is
    c.loop-key.invariant c.in_ok-on_key.ensures c.in_ok-push_some.ensures
