-- What is found in the trees of clients, on the way.
use Rattle.std.specs.Prelude.{◌≡◌, ◌≤◌, List, [], Result, Ok, Err}
use Rattle.jc_base.specs.Causes.{Rose}
use Rattle.jc_base.specs.States.{TreesState, Change}
use Rattle.jc_answers.specs.Said.{HasFailedCall}
use Rattle.jc_answers.specs.declared.judged.Said.{Said}
use Rattle.jc_answers.specs.declared.answer.Answer.TheVariants as answers
use Rattle.jc_losses.specs.Ground.{size_of_ground, IsGround}
use Rattle.jc_losses.specs.declared.grounds.Ground.{Ground}
use Rattle.jc_releases.specs.declared.stop.Stop.TheVariants as stops
use Rattle.jc_trees.specs.Tree.{TreeOf}
use Rattle.jc_trees.specs.declared.tree.TreeName.TheVariants as names
use Rattle.jc_trees.specs.declared.trees_error.TreesError.{TreesError}
use Rattle.jc_trees.specs.declared.trees_error.TreesError.TheVariants as trees_errors

-- what was read of two trees
pub record IsOfTwoTrees (g : Ground) : Type 0 where
  pub lists : IsGround g
  pub few : size_of_ground g ≤ 80000

-- why nothing is said of the clients of a tree
abbrev pub FailsIn : Change TreesState → TreeOf → TreesError → Type 0
FailsIn c tree (trees_errors.Unread name fault) = ⊥
FailsIn c tree (trees_errors.Fault name) = (name ≡ tree.name) × Rose (c.before.faults tree.root) (c.after.faults tree.root)
FailsIn c tree trees_errors.Memory = Unit {0}

-- of the clients of one of the trees
abbrev pub FailsAmong : Change TreesState → List TreeOf → TreesError → Type 0
FailsAmong c trees (trees_errors.Unread name fault) = ⊥
FailsAmong c trees (trees_errors.Fault name) = HasFailedCall c trees name
FailsAmong c trees trees_errors.Memory = Unit {0}

-- what is said of a tree that isn't read, or why nothing is
abbrev pub error_said : TreesError → Result Said TreesError
error_said (trees_errors.Unread name fault) = Ok (record { answer = answers.Refused (stops.Unread names.Client fault); explained = [] })
error_said (trees_errors.Fault name) = Err (trees_errors.Fault name)
error_said trees_errors.Memory = Err trees_errors.Memory
