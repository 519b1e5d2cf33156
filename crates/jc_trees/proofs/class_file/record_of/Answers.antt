use Rattle.std.proofs.Common.{◌≡◌, rules}
use Rattle.jc_trees.specs.ClassFiles.{path_of}
use Rattle.jc_trees.proofs.ShortPaths.{short_read}
use Rattle.jc_trees.proofs.class_file.record_of.Goals as goal

pub returns-then-is_place-clause-short : goal.returns-then-is_place-clause-short
returns-then-is_place-clause-short c =
    let place : c.args.path.now ≡ path_of c.in-Ok.facts.name = search rules in
    short_read c.args.path.now c.args.bytes.now c.in-Ok.facts c.requires (λ k. (c.type_inv.bytes k).fits) c.in-Ok.ensures.exact place
