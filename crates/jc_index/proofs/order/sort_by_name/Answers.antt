use Rattle.std.proofs.Common.{rules, ℕ, List}
use Rattle.std.proofs.lemmas.List.Sorted.{ranks_by, answers_always}
use Rattle.std.proofs.lemmas.Cmp.{nat_list_cmp_total}
use Rattle.std.specs.Ordering.{is_lt}
use Rattle.jc_facts.specs.Exactly.{name_order}
use Rattle.jc_index.proofs.order.sort_by_name.Goals as goal

pub returns-clause-sorted : goal.returns-clause-sorted
returns-clause-sorted c =
    c.in_ok-sort_by.ensures.sorted (λ (x : List ℕ × ℕ) (y : List ℕ × ℕ). is_lt (name_order x.0 y.0)) (ranks_by nat_list_cmp_total (λ (p : List ℕ × ℕ). p.0))
    (answers_always _ _ _ (λ f a r g h. search rules))
