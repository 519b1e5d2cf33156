use Rattle.std.proofs.Common.{rules}
use Rattle.jc_trees.proofs.Places.{place_then, place_else}
use Rattle.jc_trees.proofs.class_file.is_place.Goals as goal

pub returns-then-eq : goal.returns-then-eq
returns-then-eq c = place_then c.args.path.now c.args.name.now _ _ (search rules) (search rules)

pub returns-else-eq : goal.returns-else-eq
returns-else-eq c = place_else c.args.path.now c.args.name.now _ _ (search rules) (search rules)
