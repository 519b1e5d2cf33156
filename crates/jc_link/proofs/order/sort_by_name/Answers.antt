use Rattle.std.proofs.Common.{rules}
use Rattle.std.proofs.lemmas.List.Sorted.{ranks_by, answers_always}
use Rattle.std.proofs.lemmas.Cmp.{nat_list_cmp_total}
use Rattle.std.specs.Ordering.{is_lt}
use Rattle.jc_facts.specs.declared.client.ClientClass.{ClientClass}
use Rattle.jc_facts.specs.Exactly.{name_order}
use Rattle.jc_link.proofs.order.sort_by_name.Goals as goal

pub returns-clause-sorted : goal.returns-clause-sorted
returns-clause-sorted c =
    c.in_ok-sort_by.ensures.sorted (λ (x : ClientClass) (y : ClientClass). is_lt (name_order x.facts.name y.facts.name)) (ranks_by nat_list_cmp_total (λ (p : ClientClass). p.facts.name))
    (answers_always _ _ _ (λ f a r g h. search rules))
