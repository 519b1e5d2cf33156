use Rattle.std.proofs.Common.{rules}
use Rattle.std.proofs.lemmas.List.Sorted.{ranks_by, answers_always}
use Rattle.std.proofs.lemmas.Cmp.{nat_list_cmp_total}
use Rattle.std.specs.Ordering.{is_lt}
use Rattle.jc_facts.specs.declared.blueprint.Blueprint.{Blueprint}
use Rattle.jc_facts.specs.Exactly.{name_order}
use Rattle.jc_witness.specs.steps.PlanFiles.{class_of_file}
use Rattle.jc_witness.proofs.Sorted.{sorted_is}
use Rattle.jc_witness.proofs.planned_files.sort_by_name.Goals as goal

pub returns : goal.returns
returns c =
    sorted_is class_of_file c.args.files.now.items c.sort_by.new.self.items c.requires c.sort_by.ensures.permutation
    (c.in_ok-sort_by.ensures.sorted (λ (x : Blueprint) (y : Blueprint). is_lt (name_order x.facts.name y.facts.name)) (ranks_by nat_list_cmp_total class_of_file) (answers_always _ _ _ (λ f a r g h. search rules)))
