-- What is said of clients, by their trees.
--     IsSaid files O N tree answer      the answer on the clients of the tree, over the two sides
--     AreBorneOut files O N trees all      each loss of theirs is one by what `link` says with either side
--     HasFailedCall c trees name      a call on the tree of this name failed
use Rattle.std.specs.Prelude.{◌≡◌, ◌↔◌, List}
use Rattle.std.specs.List.{AllZip, Contains}
use Rattle.jc_base.specs.Causes.{Rose}
use Rattle.jc_base.specs.Outside.{FileOf}
use Rattle.jc_base.specs.States.{TreesState, Change}
use Rattle.jc_facts.specs.declared.client.ClientClass.{ClientClass}
use Rattle.jc_facts.specs.declared.outcome.Outcome.{Outcome}
use Rattle.jc_facts.specs.client.Linked.{outcomes}
use Rattle.jc_facts.specs.world.World.{World}
use Rattle.jc_answers.specs.Answers.{answer_of}
use Rattle.jc_answers.specs.declared.answer.Answer.{Answer}
use Rattle.jc_answers.specs.declared.answer.Answer.TheVariants as answers
use Rattle.jc_losses.specs.Losses.{IsLoss}
use Rattle.jc_releases.specs.declared.stop.Stop.TheVariants as stops
use Rattle.jc_trees.specs.ClassFiles.{IsTreeFault}
use Rattle.jc_trees.specs.FirstTree.{IsFirst}
use Rattle.jc_trees.specs.ReadTrees.{Gives}
use Rattle.jc_trees.specs.Tree.{TreeOf}
use Rattle.jc_trees.specs.declared.file_fault.TreeFault.{TreeFault}
use Rattle.jc_trees.specs.declared.tree.TreeName.{TreeName}
use Rattle.jc_trees.specs.declared.tree.TreeName.TheVariants as names
use Rattle.jc_trees.specs.declared.tree_read.TreeRead.TheVariants as reads

-- the tree is read as clients, and this is said of them, or it isn't read, and that is said, as `link` says it
pub data IsSaid (files : List FileOf) (O N : World) (tree : TreeOf) (answer : Answer) : Type 0 where
  of_clients : (cs : List ClientClass) → Gives files tree (reads.Clients cs) → answer ≡ answer_of O N cs → IsSaid files O N tree answer
  of_fault : (fault : TreeFault) → IsTreeFault files tree fault → answer ≡ answers.Refused (stops.Unread names.Client fault) → IsSaid files O N tree answer

-- what is said of the clients of each tree
abbrev pub AreSaid : List FileOf → World → World → List TreeOf → List Answer → Type 0
AreSaid files O N trees all = AllZip (IsSaid files O N) trees all

-- what is lost of the clients are exactly the outcomes that `link` says to be Ok with the old side, and to be errors with the new
abbrev pub AreLosses : World → World → List ClientClass → Answer → Type 0
AreLosses O N cs (answers.Judged l) = (o : Outcome) → Contains l.lost o ↔ IsLoss (outcomes O cs) (outcomes N cs) o
AreLosses O N cs (answers.Refused stop) = Unit {0}

-- of each tree that is read as clients
abbrev pub AreBorneOut : List FileOf → World → World → List TreeOf → List Answer → Type 0
AreBorneOut files O N trees all = AllZip (λ tree answer. (cs : List ClientClass) → Gives files tree (reads.Clients cs) → AreLosses O N cs answer) trees all

-- a call on a tree of this name failed, whether others were read or not: the count of its root rose
abbrev pub HasFailedCall : Change TreesState → List TreeOf → TreeName → Type 0
HasFailedCall c = IsFirst (λ tree. Unit {0}) (λ tree. Rose (c.before.faults tree.root) (c.after.faults tree.root))
