use Rattle.std.proofs.Common.{◌≡◌, ◌-◌}
use Rattle.std.specs.Prelude.{map}
use Rattle.std.specs.Option.{option_map}
use Rattle.jc_facts.specs.code.ClientItems as client
use Rattle.jc_attr.specs.Views.{head_view}
use Rattle.jc_code.specs.steps.RowView.{row_view}
use Rattle.jc_code.specs.steps.Pushed.{with_before}
use Rattle.jc_code.proofs.methods.methods_items.Given as goal

abbrev pub invariant-loop : goal.invariant-loop
invariant-loop l = with_before l.items.items (client.methods_items l.pool (head_view l.head) (option_map (λ x. map (λ r. row_view r) x.now) l.boots) (l.count - l.counter) l.rest) ≡ with_before l.fn.items.items (client.methods_items l.pool (head_view l.head) (option_map (λ x. map (λ r. row_view r) x.now) l.boots) l.count l.bytes)
