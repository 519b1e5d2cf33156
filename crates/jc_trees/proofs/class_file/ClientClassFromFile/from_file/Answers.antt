use Rattle.std.proofs.Common.{refl}
use Rattle.jc_trees.specs.declared.tree.TreeKind.TheVariants as kinds
use Rattle.jc_trees.proofs.class_file.ClientClassFromFile.from_file.Goals as goal

pub returns-in-Err-clause-fault : goal.returns-in-Err-clause-fault
returns-in-Err-clause-fault c = (rw c.in-Err.is at c.in_ok-facts.ensures.fault) kinds.Clients refl

pub returns-in-Err-2-clause-fault : goal.returns-in-Err-2-clause-fault
returns-in-Err-2-clause-fault c = (rw c.in-Err-2.is at c.in_ok-items.ensures.fault) c.args.path.now c.in-Ok.facts (rw c.in-Ok.is at c.in_ok-facts.ensures.read)
