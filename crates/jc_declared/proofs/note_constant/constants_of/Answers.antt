use Rattle.std.proofs.Common.{◌-◌, length, refl}
use Rattle.jc_declared.proofs.NoteConstant.{last_more}
use Rattle.jc_declared.proofs.note_constant.constants_of.Goals as goal

pub loop-done-preserved : goal.loop-done-preserved
loop-done-preserved c =
    last_more c.as_slice-constants.result.now c.loop-done.done (length c.as_slice-constants.result.now - 1 - c.loop-done.done) _ c.index-constants-constants.result c.of_key.result c.loop-done.by_key c.insert.new.self
    c.loop-done-test.true refl refl c.index-constants-constants.is c.of_key.ensures c.loop-done.invariant c.in_ok-insert.ensures.updates
