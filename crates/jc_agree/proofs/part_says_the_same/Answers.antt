use Rattle.jc_agree.proofs.OverAPart.{linked_over_a_part, judged_over_a_part}
use Rattle.jc_agree.proofs.part_says_the_same.Goals as goal

pub returns : goal.returns
returns c = record {
  linked = linked_over_a_part c.enough_links_alike.ensures c.enough_allows.ensures c.names_are_allowed.ensures;
  judged = judged_over_a_part c.enough_links_alike.ensures c.enough_allows.ensures c.names_are_allowed.ensures;
}
