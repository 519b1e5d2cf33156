use Rattle.jc_trees.proofs.Libraries.{client_list}
use Rattle.jc_trees.proofs.read_tree.clients.Goals as goal

pub returns-in-Ok-clause-list : goal.returns-in-Ok-clause-list
returns-in-Ok-clause-list g c = client_list c.in-Ok.clients.items c.in-Ok.ensures.classes
