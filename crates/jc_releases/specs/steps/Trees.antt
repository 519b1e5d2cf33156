-- What is found in the trees of a command, on the way.
use Rattle.jc_trees.specs.declared.trees_error.TreesError.{TreesError}
use Rattle.jc_trees.specs.declared.trees_error.TreesError.TheVariants as trees_errors
use Rattle.jc_releases.specs.declared.stop.Stop.{Stop}
use Rattle.jc_releases.specs.declared.stop.Stop.TheVariants as stops

-- how trees that aren't read stop the command
abbrev pub stop_by_trees : TreesError → Stop
stop_by_trees (trees_errors.Unread name fault) = stops.Unread name fault
stop_by_trees (trees_errors.Fault name) = stops.ReadFault name
stop_by_trees trees_errors.Memory = stops.Memory
