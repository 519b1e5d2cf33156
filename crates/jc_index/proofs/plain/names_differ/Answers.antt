use Rattle.std.proofs.Common.{sym, ◌∙◌}
use Rattle.std.proofs.lemmas.List.{at_drop_all}
use Rattle.jc_facts.specs.world.World.{differ_by_name}
use Rattle.jc_index.proofs.Searches.{differ_by}
use Rattle.jc_index.proofs.plain.names_differ.Goals as goal

pub returns-then-is_some : goal.returns-then-is_some
returns-then-is_some c =
    sym (c.loop-at.invariant ∙ differ_by c.args.classes.now c.loop-at.at c.index-classes-at.result c.as_bytes.result.now c.named.result _ c.loop-at-test.true c.index-classes-at.is c.as_bytes.ensures c.named.ensures c.if-is_some.ensures)

pub loop-at-preserved : goal.loop-at-preserved
loop-at-preserved c =
    c.loop-at.invariant ∙ differ_by c.args.classes.now c.loop-at.at c.index-classes-at.result c.as_bytes.result.now c.named.result _ c.loop-at-test.true c.index-classes-at.is c.as_bytes.ensures c.named.ensures c.if-is_some.ensures

pub returns : goal.returns
unfolding differ_by_name
returns c = sym (c.loop-at.invariant ∙ at_drop_all differ_by_name c.args.classes.now c.loop-at.at c.loop-at-test.false)
