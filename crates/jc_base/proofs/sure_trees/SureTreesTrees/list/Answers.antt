use Rattle.jc_base.specs.MemFile.{files_of}
use Rattle.jc_base.proofs.Paths.{listed_paths}
use Rattle.jc_base.proofs.sure_trees.SureTreesTrees.list.Goals as goal

pub returns-in-Ok-clause-listed : goal.returns-in-Ok-clause-listed
returns-in-Ok-clause-listed c = rw (c.in-Ok.ensures, c.as_slice.ensures.value) (listed_paths c.args.root.now (files_of c.args.self.now.files.items))
