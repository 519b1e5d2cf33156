use Rattle.std.proofs.Common.{refl}
use Rattle.jc_trees.specs.declared.tree.TreeKind.TheVariants as kinds
use Rattle.jc_trees.proofs.Libraries.{fit_record}
use Rattle.jc_trees.proofs.class_file.ClassFactsFromFile.from_file.Goals as goal

pub returns-in-Ok-clause-fit : goal.returns-in-Ok-clause-fit
returns-in-Ok-clause-fit c =
    fit_record c.args.path.now c.args.bytes.now c.in-Ok.facts (rw c.in-Ok.is at c.in_ok-facts.ensures.read) (rw c.in-Ok.is at c.in_ok-facts.ensures.short)

pub returns-in-Err-clause-fault : goal.returns-in-Err-clause-fault
returns-in-Err-clause-fault c = (rw c.in-Err.is at c.in_ok-facts.ensures.fault) kinds.Library refl
