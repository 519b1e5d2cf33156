use Rattle.std.proofs.Common.{◌≡◌, ◌++◌, ◌+◌, map, drop}
use Rattle.jc_trees.specs.TreeView.{tree_of}
use Rattle.jc_releases.specs.Command.{release_trees}
use Rattle.jc_releases.proofs.command.push_releases.Given as goal

abbrev pub invariant-loop-i : goal.invariant-loop-i
invariant-loop-i l =
    map tree_of l.wanted.items ++ release_trees (l.i + 1) (map (λ root. root.now) (drop l.i l.roots)) ≡ map tree_of l.fn.wanted.items ++ release_trees 1 (map (λ root. root.now) l.roots)
