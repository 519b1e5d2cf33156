use Rattle.jc_trees.proofs.Libraries.{fit_record}
use Rattle.jc_trees.proofs.class_file.ModularFileFromFile.from_file.Goals as goal

pub returns-in-Ok-2-clause-fit : goal.returns-in-Ok-2-clause-fit
returns-in-Ok-2-clause-fit c =
    fit_record c.args.path.now c.args.bytes.now c.in-Ok-2.facts (rw c.in-Ok-2.is at c.in_ok-facts.ensures.read) (rw c.in-Ok-2.is at c.in_ok-facts.ensures.short)
