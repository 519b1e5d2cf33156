use Rattle.jc_trees.specs.TreeView.{tree_of}
use Rattle.jc_trees.proofs.FrontRead.{read_told, fault_told}
use Rattle.jc_trees.proofs.TreeRead.{place_read}
use Rattle.jc_trees.proofs.read_tree.read_one.Goals as goal

pub returns-in-Ok-Ok-clause-read : goal.returns-in-Ok-Ok-clause-read
returns-in-Ok-Ok-clause-read g c = λ files told.
    read_told files (tree_of c.args.tree.now) _ _ _ _ c.requires.kind (rw told at c.in_ok-read_into.ensures.bytes) (rw (c.in-Ok-Ok.field-0-is, c.as_bytes.ensures.bytes) at c.in-Ok-Ok.ensures.read)

pub returns-in-Ok-Ok-clause-named : goal.returns-in-Ok-Ok-clause-named
returns-in-Ok-Ok-clause-named g c = place_read _ _ _ _ (rw c.in-Ok-Ok.field-0-is at c.in-Ok-Ok.ensures.read)

pub returns-in-Ok-Err-clause-fault : goal.returns-in-Ok-Err-clause-fault
returns-in-Ok-Err-clause-fault g c = λ files told.
    fault_told files (tree_of c.args.tree.now) _ _ _ _ c.requires.kind (rw told at c.in_ok-read_into.ensures.bytes) (rw (c.in-Ok-Err.field-0-is, c.as_bytes.ensures.bytes) at c.in-Ok-Err.ensures.fault)
