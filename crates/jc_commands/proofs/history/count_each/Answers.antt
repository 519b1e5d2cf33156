use Rattle.std.proofs.Common.{◌<◌, ◌^◌, List, subst}
use Rattle.std.specs.List.{All}
use Rattle.std.proofs.lemmas.List.{take_all}
use Rattle.std.proofs.lemmas.List.Elements.{All-more}
use Rattle.jc_facts.specs.world.World.{World}
use Rattle.jc_commands.specs.steps.History.{IsCounted}
use Rattle.jc_commands.proofs.history.count_each.Goals as goal

pub loop-table-preserved : goal.loop-table-preserved
loop-table-preserved c =
    All-more IsCounted c.args.tables.now c.loop-table.table-index c.table-item.result c.loop-table-test.true c.loop-table.invariant
    (subst IsCounted c.table-item.is (record { side = c.count-size.ensures.side; few = subst (λ n. n < 2 ^ 63) c.mention_count-names.ensures.count c.mention_count-names.ensures.small }))

pub returns : goal.returns
returns c = subst (λ (Ws : List World). All IsCounted Ws) (take_all c.loop-table.table-index c.args.tables.now c.loop-table-test.false) c.loop-table.invariant
