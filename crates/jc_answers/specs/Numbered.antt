-- Which lines of a check explain what the clients of each tree lose.
--     AreNumbered files O N lines trees all      of the losses of the clients of each tree the numbers of the lines
use Rattle.std.specs.Prelude.{◌≡◌, ℕ, List, [], Option, None, Some}
use Rattle.std.specs.List.{AllZip}
use Rattle.jc_base.specs.Outside.{FileOf}
use Rattle.jc_facts.specs.declared.client.ClientClass.{ClientClass}
use Rattle.jc_facts.specs.client.Valid.{facts_of}
use Rattle.jc_facts.specs.world.World.{World}
use Rattle.jc_used.specs.Explains.{explained_by}
use Rattle.jc_used.specs.declared.line.Line.{Line}
use Rattle.jc_answers.specs.Answers.{answer_of}
use Rattle.jc_answers.specs.declared.answer.Answer.{Answer}
use Rattle.jc_answers.specs.declared.answer.Answer.TheVariants as answers
use Rattle.jc_trees.specs.ClassFiles.{IsTreeFault}
use Rattle.jc_trees.specs.ReadTrees.{Gives}
use Rattle.jc_trees.specs.Tree.{TreeOf}
use Rattle.jc_trees.specs.declared.file_fault.TreeFault.{TreeFault}
use Rattle.jc_trees.specs.declared.tree_read.TreeRead.TheVariants as reads

-- of each loss of the clients of which this is said, the number of the first line that explains it; clients that aren't linked lose nothing
abbrev pub numbers_of : List Line → List ClientClass → Answer → List (Option ℕ)
numbers_of lines cs (answers.Judged l) = explained_by (facts_of cs) lines l.lost
numbers_of lines cs (answers.Refused stop) = []

-- where lines are asked for
abbrev pub numbers_by : Option (List Line) → List ClientClass → Answer → List (Option ℕ)
numbers_by None cs answer = []
numbers_by (Some lines) cs answer = numbers_of lines cs answer

-- the tree is read as clients, and these are the numbers of what they lose, or it isn't read, and there are none
pub data IsNumbered (files : List FileOf) (O N : World) (lines : Option (List Line)) (tree : TreeOf) (numbers : List (Option ℕ)) : Type 0 where
  of_losses : (cs : List ClientClass) → Gives files tree (reads.Clients cs) → numbers ≡ numbers_by lines cs (answer_of O N cs) → IsNumbered files O N lines tree numbers
  of_none : (fault : TreeFault) → IsTreeFault files tree fault → numbers ≡ [] → IsNumbered files O N lines tree numbers

-- those of each tree
abbrev pub AreNumbered : List FileOf → World → World → Option (List Line) → List TreeOf → List (List (Option ℕ)) → Type 0
AreNumbered files O N lines trees all = AllZip (IsNumbered files O N lines) trees all
