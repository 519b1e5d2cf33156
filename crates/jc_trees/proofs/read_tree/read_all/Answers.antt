use Rattle.std.proofs.Common.{◌≡◌, ◌∙◌, ◌++◌, ◌∷◌, [], take, sym, ap, arith}
use Rattle.std.proofs.lemmas.List.{map_push}
use Rattle.std.proofs.lemmas.List.Elements.{All-push}
use Rattle.std.specs.Prelude.{map}
use Rattle.jc_base.specs.States.{change}
use Rattle.jc_facts.specs.Names.{Bytes}
use Rattle.jc_trees.specs.ClassFiles.{path_read}
use Rattle.jc_trees.specs.steps.ReadTree.{IsFitRead}
use Rattle.jc_trees.specs.TreeView.{tree_of}
use Rattle.jc_trees.proofs.FrontRead.{read_more, next_taken, first_of}
use Rattle.jc_trees.proofs.TreeRead.{stops_file}
use Rattle.jc_trees.proofs.read_tree.read_all.Goals as goal

pub returns-in-Ok-Err-clause-stopped : goal.returns-in-Ok-Err-clause-stopped
returns-in-Ok-Err-clause-stopped g c =
    stops_file (change g.T.Trees.state c.args.trees.now c.read_one.new.trees) (tree_of c.args.tree.now) c.args.paths.now
    c.path-item.result c.in-Ok-Err.fault c.error_at.result c.error_at.ensures (λ files told.
    first_of files (tree_of c.args.tree.now) _ c.loop-path.path-index _ (map g.C.FromFile.says c.loop-path.all.items) _ c.loop-path-test.true c.path-item.is (c.loop-path.invariant.read files told)
    ((rw (c.in-Ok-Err.field-0-is, c.as_str.ensures) at c.in-Ok-Err.ensures.fault) files (c.loop-path.invariant.content ∙ told)))

pub loop-path-preserved : goal.loop-path-preserved
loop-path-preserved g c =
    let taken = next_taken c.args.paths.now c.loop-path.path-index c.path-item.result c.loop-path-test.true c.path-item.is in
    let kept = map_push g.C.FromFile.says c.loop-path.all.items c.in-Ok-Ok.file in
    let all = map g.C.FromFile.says c.loop-path.all.items in
    let found = g.C.FromFile.says c.in-Ok-Ok.file in record {
      read = λ files told. rw (taken, c.in-Ok.ensures.items, kept) (read_more files (tree_of c.args.tree.now) _ _ _ _ (c.loop-path.invariant.read files told)
          ((rw (c.in-Ok-Ok.field-0-is, c.as_str.ensures) at c.in-Ok-Ok.ensures.read) files (c.loop-path.invariant.content ∙ told)));
      named =
          let placed : c.path-item.result ≡ path_read found = rw (c.in-Ok-Ok.field-0-is, c.as_str.ensures) at c.in-Ok-Ok.ensures.named in
          rw (taken, c.in-Ok.ensures.items, kept, map_push path_read all found, c.loop-path.invariant.named)
          (ap (λ (p : Bytes). take c.loop-path.path-index c.args.paths.now ++ p ∷ []) (sym placed));
      fit = rw (c.in-Ok.ensures.items, kept) (All-push IsFitRead all found c.loop-path.invariant.fit (rw c.in-Ok-Ok.field-0-is at c.in-Ok-Ok.ensures.fit));
      content = c.in-Ok-Ok.ensures.content ∙ c.loop-path.invariant.content;
      never_falls = λ r. omega (arith, c.in-Ok-Ok.ensures.never_falls r, c.loop-path.invariant.never_falls r);
    }
