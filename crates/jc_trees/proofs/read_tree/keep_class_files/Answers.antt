use Rattle.std.proofs.Common.{rules}
use Rattle.std.proofs.lemmas.Fn.{filter_same}
use Rattle.jc_trees.specs.ClassFiles.{is_class_path}
use Rattle.jc_trees.proofs.read_tree.keep_class_files.Goals as goal

pub returns : goal.returns
returns c = filter_same _ (is_class_path c.args.kind) _ (λ x b f' k. search rules) _ _ c.retain.ensures.filtered
