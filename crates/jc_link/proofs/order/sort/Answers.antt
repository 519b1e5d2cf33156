use Rattle.jc_link.proofs.Sorting.{sorted_order}
use Rattle.jc_link.proofs.order.sort.Goals as goal

pub returns : goal.returns
returns c = sorted_order c.args.clients.now.items c.sort_by_name.new.clients.items c.requires c.sort_by_name.ensures.permutation c.in_ok-sort_by_name.ensures.sorted
