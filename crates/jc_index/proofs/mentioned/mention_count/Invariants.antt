use Rattle.std.proofs.Common.{◌≡◌, ◌<◌, ◌^◌, length, take}
use Rattle.jc_facts.specs.world.Mentioned.{all_mentions}
use Rattle.jc_index.proofs.mentioned.mention_count.Given as goal

abbrev pub invariant-loop-class : goal.invariant-loop-class
invariant-loop-class l = (l.count ≡ length (all_mentions (take l.class-index l.classes))) × (l.count < 2 ^ 62)
