use Rattle.std.proofs.Common.{◌∙◌, ap}
use Rattle.jc_index.specs.Root.{root_by, fault_of_root}
use Rattle.jc_index.proofs.root.root_fault.Goals as goal

pub returns-in-Some : goal.returns-in-Some
unfolding fault_of_root
returns-in-Some c = c.root_part.ensures ∙ ap root_by c.in-Some.ensures
