use Rattle.std.proofs.Common.{◌≡◌, ◌∙◌, refl, rules, length, ◌≤◌, false, true}
use Rattle.std.specs.Prelude.{nat_lt}
use Rattle.std.specs.List.{list_any}
use Rattle.jc_trees.specs.declared.limits.TheConstants.{MAX_FILES, MAX_PATH}
use Rattle.jc_trees.specs.TreeView.{tree_of}
use Rattle.jc_trees.proofs.ShortPaths.{short_listed}
use Rattle.jc_trees.proofs.TreeRead.{files_are, class_list, long_path, stops_in}
use Rattle.jc_trees.proofs.read_tree.files_of.Goals as goal

pub returns-in-Ok-read_all-clause-read : goal.returns-in-Ok-read_all-clause-read
returns-in-Ok-read_all-clause-read g c = λ files told.
    let few : length c.in-Ok.paths.items ≤ MAX_FILES = search rules in
    let short : list_any (λ p. nat_lt MAX_PATH (length p)) c.in-Ok.paths.items ≡ false = search rules in
    files_are files (tree_of c.args.tree.now) _ _ (c.in-Ok.ensures.exact files told) few short
    ((rw c.as_slice-2.ensures.value at c.in-Ok-read_all.ensures.read) files (c.in-Ok.ensures.content ∙ told))
    (rw c.as_slice-2.ensures.value at c.in-Ok-read_all.ensures.named)

pub returns-in-Ok-read_all-clause-classes : goal.returns-in-Ok-read_all-clause-classes
returns-in-Ok-read_all-clause-classes g c =
    let few : length c.in-Ok.paths.items ≤ MAX_FILES = search rules in
    class_list _ _ (rw c.as_slice-2.ensures.value at c.in-Ok-read_all.ensures.named) c.in-Ok.ensures.rising few c.in-Ok-read_all.ensures.fit

pub returns-clause-stopped : goal.returns-clause-stopped
returns-clause-stopped g c =
    let few : length c.in-Ok.paths.items ≤ MAX_FILES = search rules in
    let short : list_any (λ p. nat_lt MAX_PATH (length p)) c.in-Ok.paths.items ≡ false = search rules in
    stops_in (g.T.Trees.state c.args.trees.now) (g.T.Trees.state c.class_paths.new.trees) (g.T.Trees.state c.read_all.new.trees)
    (tree_of c.args.tree.now) c.in-Ok.paths.items c.in-Ok.ensures.exact few short c.in-Ok.ensures.content c.in-Ok.ensures.never_falls
    c.in-Err-read_all.error (rw (c.as_slice-2.ensures.value) at c.in-Err-read_all.ensures.stopped)

pub returns-then-has_long_path-clause-stopped : goal.returns-then-has_long_path-clause-stopped
returns-then-has_long_path-clause-stopped g c =
    let few : length c.in-Ok.paths.items ≤ MAX_FILES = search rules in
    let long : list_any (λ p. nat_lt MAX_PATH (length p)) c.in-Ok.paths.items ≡ true = search rules in
    (refl, λ files told. let are = c.in-Ok.ensures.exact files told in (record { paths = c.in-Ok.paths.items; are = are; few = few }, long_path files (tree_of c.args.tree.now) _ are long))

pub read_all-requires-clause-short : goal.read_all-requires-clause-short
read_all-requires-clause-short g c =
    let short : list_any (λ p. nat_lt MAX_PATH (length p)) c.in-Ok.paths.items ≡ false = search rules in
    rw c.as_slice-2.ensures.value (short_listed c.in-Ok.paths.items short)
