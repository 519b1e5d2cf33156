use Rattle.std.proofs.Common.{◌≡◌, ◌++◌, ◌+◌, map, drop}
use Rattle.jc_trees.specs.TreeView.{tree_of}
use Rattle.jc_releases.specs.Command.{client_trees}
use Rattle.jc_releases.proofs.command.trees_of_each_client.Given as goal

abbrev pub invariant-loop-i : goal.invariant-loop-i
invariant-loop-i l = map tree_of l.wanted.items ++ client_trees (l.i + 1) (map (λ root. root.now) (drop l.i l.roots)) ≡ client_trees 1 (map (λ root. root.now) l.roots)
