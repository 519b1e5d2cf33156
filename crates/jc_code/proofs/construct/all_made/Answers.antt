use Rattle.std.proofs.Common.{drop, arith}
use Rattle.std.proofs.lemmas.List.{drop_all}
use Rattle.jc_code.specs.steps.KindView.{kind_view, kinds_in}
use Rattle.jc_code.proofs.Frames.{all_made_is}
use Rattle.jc_code.proofs.construct.all_made.Goals as goal

pub returns : goal.returns
returns c = all_made_is kind_view (kind_view c.args.from) c.args.name.now (kinds_in c.loop-kind.all.items) (drop c.loop-kind.kind-index c.args.kinds.now) c.args.kinds.now (drop_all c.loop-kind.kind-index c.args.kinds.now (omega arith)) c.loop-kind.invariant
