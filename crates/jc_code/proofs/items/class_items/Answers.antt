use Rattle.std.proofs.Common.{◌∙◌}
use Rattle.std.specs.Option.{option_map}
use Rattle.jc_facts.specs.code.ClientItems as client
use Rattle.jc_attr.specs.Views.{head_view}
use Rattle.jc_code.proofs.SameRows.{found_all, fault_in_all}
use Rattle.jc_code.proofs.items.class_items.Goals as goal

pub returns-in-Ok : goal.returns-in-Ok
returns-in-Ok c = found_all c.args.pool.now (head_view c.args.head) _ (client.boots_of (option_map (λ x. x.now) c.args.body)) c.args.count c.args.bytes.now _ c.methods_items.new.items.items (c.lent.ensures ∙ c.in_ok-rows.ensures) (rw (c.new-items.ensures.items, c.in-Ok.is) at c.in_ok-methods_items.ensures)

pub returns : goal.returns
returns c = fault_in_all c.args.pool.now (head_view c.args.head) _ (client.boots_of (option_map (λ x. x.now) c.args.body)) c.args.count c.args.bytes.now c.in-Err.fault (c.lent.ensures ∙ c.in_ok-rows.ensures) (rw (c.new-items.ensures.items, c.in-Err.is) at c.in_ok-methods_items.ensures)
