use Rattle.jc_index.proofs.Mentions.{count_next}
use Rattle.jc_index.proofs.mentioned.mention_count.Goals as goal

pub loop-class-preserved : goal.loop-class-preserved
loop-class-preserved c = (
  count_next c.args.classes.now c.loop-class.class-index c.class-item.result c.loop-class.count c.in-Some.more c.loop-class-test.true c.class-item.is c.in-Some.ensures.value c.loop-class.invariant.0,
  c.in-Some.ensures.small,
)
