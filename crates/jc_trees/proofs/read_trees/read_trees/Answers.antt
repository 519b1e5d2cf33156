use Rattle.std.proofs.Common.{◌∙◌, arith}
use Rattle.std.proofs.lemmas.List.Elements.{All-push}
use Rattle.jc_trees.specs.ClassLists.{IsReadList}
use Rattle.jc_trees.proofs.TreesRead.{one_more, kinds_more, stops_among}
use Rattle.jc_trees.proofs.read_trees.read_trees.Goals as goal

pub loop-tree-preserved : goal.loop-tree-preserved
loop-tree-preserved g c = record {
  read = λ files told. rw c.in-Ok-push.ensures.items
      (one_more c.args.wanted.now c.loop-tree.tree-index _ c.loop-tree-test.true files c.loop-tree.all.items _
      (c.loop-tree.invariant.read files told) (c.in-Ok-read_tree.ensures.read files (c.loop-tree.invariant.content ∙ told)));
  lists = rw c.in-Ok-push.ensures.items (All-push IsReadList c.loop-tree.all.items _ c.loop-tree.invariant.lists c.in-Ok-read_tree.ensures.list);
  kinds = rw c.in-Ok-push.ensures.items (kinds_more c.args.wanted.now c.loop-tree.tree-index _ c.loop-tree-test.true c.loop-tree.all.items _ c.loop-tree.invariant.kinds c.in-Ok-read_tree.ensures.kind);
  content = c.in-Ok-read_tree.ensures.content ∙ c.loop-tree.invariant.content;
  never_falls = λ r. omega (arith, c.in-Ok-read_tree.ensures.never_falls r, c.loop-tree.invariant.never_falls r);
}

pub returns-in-Err-clause-stopped : goal.returns-in-Err-clause-stopped
returns-in-Err-clause-stopped g c =
    stops_among c.args.wanted.now c.loop-tree.tree-index _ c.loop-tree-test.true
    (g.T.Trees.state c.args.trees.now) (g.T.Trees.state c.loop-tree.trees) (g.T.Trees.state c.read_tree.new.trees) c.loop-tree.all.items
    c.loop-tree.invariant.read c.loop-tree.invariant.content c.loop-tree.invariant.never_falls c.in-Err.error c.in-Err.ensures.stopped
