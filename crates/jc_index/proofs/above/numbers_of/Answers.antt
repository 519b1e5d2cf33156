use Rattle.std.proofs.Common.{arith}
use Rattle.std.proofs.lemmas.Grind.{common_steps}
use Rattle.std.proofs.lemmas.List.Elements.{filter_map-append}
use Rattle.jc_index.proofs.above.numbers_of.Goals as goal

pub loop-class-preserved : goal.loop-class-preserved
loop-class-preserved c = grind (arith, common_steps, filter_map-append)
